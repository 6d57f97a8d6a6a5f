use Rattle.std.proofs.Common.{arith}
use Rattle.std.proofs.lemmas.Grind.{common_steps}
use Rattle.anti_order.proofs.answer_counts.count_unsettled.Goals as goal

pub loop-reads-preserved : goal.loop-reads-preserved
loop-reads-preserved c = grind (arith, common_steps)

pub returns : goal.returns
returns c = grind (arith, common_steps)
