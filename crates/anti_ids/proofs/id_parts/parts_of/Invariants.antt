use Rattle.std.proofs.Common.{◌≡◌, ◌++◌, length}
use Rattle.anti_ids.specs.inner.Parts.{joined}
use Rattle.anti_ids.proofs.id_parts.parts_of.Given as goal

-- what is in parts, and what is left
abbrev pub invariant-loop-rest : goal.invariant-loop-rest
invariant-loop-rest l = joined l.parts.items ++ l.rest ≡ l.ids

abbrev pub decreases-loop-rest : goal.decreases-loop-rest
decreases-loop-rest l = length l.rest
