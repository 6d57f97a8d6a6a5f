use Rattle.std.proofs.Common.{arith}
use Rattle.std.proofs.lemmas.Grind.{common_steps}
use Rattle.anti_trace.proofs.history_merge.taken_apart.Goals as goal

pub loop-history-smaller : goal.loop-history-smaller
loop-history-smaller c = grind (arith, common_steps)

pub loop-history-preserved : goal.loop-history-preserved
loop-history-preserved c = grind (arith, common_steps)
