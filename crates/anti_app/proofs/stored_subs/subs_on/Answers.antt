use Rattle.std.proofs.Common.{arith}
use Rattle.std.proofs.lemmas.Grind.{common_steps}
use Rattle.anti_app.proofs.stored_subs.subs_on.Goals as goal

pub loop-sub-preserved : goal.loop-sub-preserved
loop-sub-preserved c = grind (arith, common_steps)

pub returns : goal.returns
returns c = grind (arith, common_steps)
