use Rattle.std.proofs.Common.{◌-◌}
use Rattle.anti_ids.specs.declared.limits.TheConstants.{LONGEST_NAME}
use Rattle.anti_ids.proofs.NameOrder.{LeftDecides}
use Rattle.anti_ids.proofs.name.order.Given as goal

-- what is left of the texts decides
abbrev pub invariant-loop-at : goal.invariant-loop-at
invariant-loop-at l = LeftDecides l.one l.other l.at

abbrev pub decreases-loop-at : goal.decreases-loop-at
decreases-loop-at l = LONGEST_NAME - l.at
