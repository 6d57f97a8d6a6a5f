use Rattle.std.proofs.Common.{arith}
use Rattle.std.proofs.lemmas.Grind.{common_steps}
use Rattle.anti_rules.proofs.toml_tree.is_among.Goals as goal

pub returns : goal.returns
returns c = grind (arith, common_steps)

pub loop-value-preserved : goal.loop-value-preserved
loop-value-preserved c = grind (arith, common_steps)

pub returns-then-eq : goal.returns-then-eq
returns-then-eq c = grind (arith, common_steps)
