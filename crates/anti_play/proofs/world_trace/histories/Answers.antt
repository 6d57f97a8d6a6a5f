use Rattle.std.proofs.Common.{arith}
use Rattle.std.proofs.lemmas.Grind.{common_steps}
use Rattle.anti_play.proofs.world_trace.histories.Goals as goal

pub loop-recorded-preserved : goal.loop-recorded-preserved
loop-recorded-preserved c = grind (arith, common_steps)
