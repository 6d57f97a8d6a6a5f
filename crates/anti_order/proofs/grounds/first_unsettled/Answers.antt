use Rattle.std.proofs.Common.{arith}
use Rattle.std.proofs.lemmas.Grind.{common_steps}
use Rattle.anti_order.proofs.grounds.first_unsettled.Goals as goal

pub returns : goal.returns
returns c = grind (arith, common_steps)

pub returns-then-not-is_settled : goal.returns-then-not-is_settled
returns-then-not-is_settled c = grind (arith, common_steps)

pub loop-read-preserved : goal.loop-read-preserved
loop-read-preserved c = grind (arith, common_steps)
