use Rattle.std.proofs.Common.{arith}
use Rattle.std.proofs.lemmas.Grind.{common_steps}
use Rattle.anti_trace.proofs.ends.add_ends.Goals as goal

pub loop-process-preserved : goal.loop-process-preserved
loop-process-preserved g c = grind (arith, common_steps)

pub returns : goal.returns
returns g c = grind (arith, common_steps)
