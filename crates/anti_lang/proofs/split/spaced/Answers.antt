use Rattle.std.proofs.Common.{arith}
use Rattle.std.proofs.lemmas.Grind.{common_steps}
use Rattle.anti_lang.proofs.split.spaced.Goals as goal

pub returns : goal.returns
returns c = grind (arith, common_steps)

pub loop-rest-preserved-in_ok-append-2 : goal.loop-rest-preserved-in_ok-append-2
loop-rest-preserved-in_ok-append-2 c = grind (arith, common_steps)

pub loop-rest-preserved : goal.loop-rest-preserved
loop-rest-preserved c = grind (arith, common_steps)
