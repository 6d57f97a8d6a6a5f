use Rattle.std.proofs.Common.{arith}
use Rattle.std.proofs.lemmas.Grind.{common_steps}
use Rattle.anti_lang.proofs.blocks.innermost.Goals as goal

pub returns-in_ok-turned-in-Some : goal.returns-in_ok-turned-in-Some
returns-in_ok-turned-in-Some c = grind (arith, common_steps)
