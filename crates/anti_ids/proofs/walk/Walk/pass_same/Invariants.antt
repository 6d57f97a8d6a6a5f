use Rattle.std.proofs.Common.{length}
use Rattle.anti_ids.specs.inner.Stores.{PassedSame}
use Rattle.anti_ids.proofs.walk.Walk.pass_same.Given as goal

-- what was gone past so far is the same
abbrev pub invariant-loop-self : goal.invariant-loop-self
invariant-loop-self l = PassedSame l.fn.self l.self l.fn.other l.other

abbrev pub decreases-loop-self : goal.decreases-loop-self
decreases-loop-self l = length l.self
