use Rattle.std.proofs.Common.{arith}
use Rattle.std.proofs.lemmas.Grind.{common_steps}
use Rattle.anti_rules.proofs.body.first_other.Goals as goal

pub loop-index-preserved : goal.loop-index-preserved
loop-index-preserved c = grind (arith, common_steps)

pub returns-then-not-is_text : goal.returns-then-not-is_text
returns-then-not-is_text c = grind (arith, common_steps)

pub returns : goal.returns
returns c = grind (arith, common_steps)
