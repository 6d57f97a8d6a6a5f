-- Runs of texts that are copied at once.
use Rattle.std.specs.Prelude.{ℕ, ◌-◌, ◌≤◌, List, ◌++◌, codes, length, take, drop}
use Rattle.std.specs.List.{concat}
use Rattle.anti_ids.specs.declared.id.WriteId.{WriteId}
use Rattle.anti_baggage.specs.Texts.{id_text}
use Rattle.anti_text.specs.declared.pieces.PieceRun.{PieceRun}

-- the texts from a number up to another, as one
abbrev pub run_text : List (List ℕ) → PieceRun → List ℕ
run_text pieces run = concat (take (run.to - run.from) (drop run.from pieces))

-- a run of these texts
pub record IsRun (pieces : List (List ℕ)) (run : PieceRun) : Type 0 where
  pub ascends : run.from ≤ run.to
  pub within : run.to ≤ length pieces

-- what is written of an id: its text with a comma behind
abbrev pub kept_text : List (List ℕ) → WriteId → List ℕ
kept_text stores id = id_text stores id ++ codes ","
