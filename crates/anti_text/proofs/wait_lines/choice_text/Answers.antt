use Rattle.std.proofs.Common.{arith}
use Rattle.std.proofs.lemmas.Grind.{common_steps}
use Rattle.anti_text.proofs.wait_lines.choice_text.Goals as goal

pub returns-in-Repost : goal.returns-in-Repost
returns-in-Repost c = grind (arith, common_steps)

pub returns-in-Take : goal.returns-in-Take
returns-in-Take c = grind (arith, common_steps)

pub returns-in-Ship : goal.returns-in-Ship
returns-in-Ship c = grind (arith, common_steps)

pub returns-in-Again : goal.returns-in-Again
returns-in-Again c = grind (arith, common_steps)

pub returns-in-Go : goal.returns-in-Go
returns-in-Go c = grind (arith, common_steps)

pub returns-in-Repull : goal.returns-in-Repull
returns-in-Repull c = grind (arith, common_steps)
