use Rattle.std.proofs.Common.{◌≡◌, take}
use Rattle.anti_ids.specs.List.{plain}
use Rattle.anti_edge.proofs.plan.Plan.new.Given as goal

abbrev pub invariant-loop-number : goal.invariant-loop-number
invariant-loop-number l = l.listed ≡ plain (take l.number-index l.fail)
