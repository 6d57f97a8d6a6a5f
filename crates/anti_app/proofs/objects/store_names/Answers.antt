use Rattle.std.proofs.Common.{arith}
use Rattle.std.proofs.lemmas.Grind.{common_steps}
use Rattle.anti_app.proofs.objects.store_names.Goals as goal

pub loop-store-preserved : goal.loop-store-preserved
loop-store-preserved c = grind (arith, common_steps)

pub returns : goal.returns
returns c = grind (arith, common_steps)
