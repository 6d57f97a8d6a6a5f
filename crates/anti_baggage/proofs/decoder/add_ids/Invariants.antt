use Rattle.std.proofs.Common.{◌++◌}
use Rattle.anti_baggage.specs.Reading.{between_commas}
use Rattle.anti_baggage.specs.Steps.{read_behind}
use Rattle.anti_baggage.proofs.Behind.{Left}
use Rattle.anti_baggage.proofs.decoder.add_ids.Given as goal

-- the ids so far, and those that the pieces to come are, are those of all pieces
abbrev pub invariant-loop-piece : goal.invariant-loop-piece
invariant-loop-piece l =
    Left (goal.iterator-loop-piece).next_gives (λ x. x.now) l.stores l.later (λ rest. read_behind l.stores l.initial.lineage (between_commas l.fn.first l.later l.text ++ rest)) l.piece-iterator l.place l.lineage
