use Rattle.std.proofs.Common.{arith}
use Rattle.std.proofs.lemmas.Grind.{common_steps}
use Rattle.anti_rules.proofs.bodies.bodies_fit.Goals as goal

pub returns-then-not-body_fits : goal.returns-then-not-body_fits
returns-then-not-body_fits c = grind (arith, common_steps)

pub loop-body-preserved : goal.loop-body-preserved
loop-body-preserved c = grind (arith, common_steps)

pub returns : goal.returns
returns c = grind (arith, common_steps)
