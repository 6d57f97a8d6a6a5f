use Rattle.std.proofs.Common.{length}
use Rattle.anti_past.specs.inner.Came.{IsRear}
use Rattle.anti_past.proofs.holds.meets.Given as goal

-- the rest is still one
abbrev pub invariant-loop-met : goal.invariant-loop-met
invariant-loop-met l = IsRear l.lineage l.rest

abbrev pub decreases-loop-met : goal.decreases-loop-met
decreases-loop-met l = length l.rest
