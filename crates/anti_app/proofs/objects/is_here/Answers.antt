use Rattle.std.proofs.Common.{arith}
use Rattle.std.proofs.lemmas.Grind.{common_steps}
use Rattle.anti_app.proofs.objects.is_here.Goals as goal

pub loop-replica-preserved : goal.loop-replica-preserved
loop-replica-preserved c = grind (arith, common_steps)

pub returns : goal.returns
returns c = grind (arith, common_steps)
