use Rattle.std.proofs.Common.{arith}
use Rattle.std.proofs.lemmas.Grind.{common_steps}
use Rattle.anti_command.proofs.command.word_of.Goals as goal

pub returns-in-json : goal.returns-in-json
returns-in-json c = grind (arith, common_steps)

pub returns-in-step : goal.returns-in-step
returns-in-step c = grind (arith, common_steps)
