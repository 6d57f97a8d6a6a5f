use Rattle.std.proofs.Common.{arith}
use Rattle.std.proofs.lemmas.Grind.{common_steps}
use Rattle.anti_place.proofs.placement.placed_in.Goals as goal

pub returns : goal.returns
returns c = grind (arith, common_steps)

pub loop-handler-preserved : goal.loop-handler-preserved
loop-handler-preserved c = grind (arith, common_steps)

pub returns-in-Some : goal.returns-in-Some
returns-in-Some c = grind (arith, common_steps)
