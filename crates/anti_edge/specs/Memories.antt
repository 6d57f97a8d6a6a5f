-- What contracts see of a source and a sink in memory.
use Rattle.std.specs.Prelude.{ℕ, ◌-◌, min, ◌==◌, if◌then◌else◌, List, ◌++◌, take, length}
use Rattle.anti_edge.specs.declared.plan.Plan.{Plan}
use Rattle.anti_edge.specs.Plans.{is_listed, after_call, after_fault}

-- a source: the bytes that are left, and how it behaves
pub record Told : Type 0 where
  pub left : List ℕ
  pub plan : Plan

-- a sink: the bytes that it took, how many more it has room for, and how it behaves
pub record Held : Type 0 where
  pub bytes : List ℕ
  pub room : ℕ
  pub plan : Plan

-- how many bytes of a piece a sink takes in one call that is not to fail
abbrev pub piece_taken : List ℕ → Held → ℕ
piece_taken piece sink = min sink.plan.most (min (length piece) sink.room)

-- a sink after the piece was offered to it
abbrev pub after_piece : List ℕ → Held → Held
after_piece piece sink =
    if is_listed sink.plan then record sink { plan = after_call sink.plan }
    else (if (sink.room == 0) then (if (length piece == 0) then record sink { plan = after_call sink.plan } else record sink { plan = after_fault (after_call sink.plan) })
    else record { bytes = sink.bytes ++ take (piece_taken piece sink) piece; room = sink.room - piece_taken piece sink; plan = after_call sink.plan })
