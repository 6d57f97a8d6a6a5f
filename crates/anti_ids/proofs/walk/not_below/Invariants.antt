use Rattle.std.proofs.Common.{◌<◌, ◌-◌, length}
use Rattle.anti_ids.specs.inner.Stores.{Passed}
use Rattle.anti_ids.proofs.walk.not_below.Given as goal

abbrev pub invariant-loop-rest : goal.invariant-loop-rest
invariant-loop-rest l = Passed (λ i. i.store < l.bound) l.ids l.rest (length l.ids - length l.rest)

abbrev pub decreases-loop-rest : goal.decreases-loop-rest
decreases-loop-rest l = length l.rest
