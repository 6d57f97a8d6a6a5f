use Rattle.std.proofs.Common.{arith}
use Rattle.std.proofs.lemmas.Grind.{common_steps}
use Rattle.anti_text.proofs.span_lines.answer_text.Goals as goal

pub returns-in_ok-put-in-Lossy : goal.returns-in_ok-put-in-Lossy
returns-in_ok-put-in-Lossy c = grind (arith, common_steps)

pub returns-in_ok-put-in-Unguarded : goal.returns-in_ok-put-in-Unguarded
returns-in_ok-put-in-Unguarded c = grind (arith, common_steps)

pub returns-in_ok-put-in-Order : goal.returns-in_ok-put-in-Order
returns-in_ok-put-in-Order c = grind (arith, common_steps)
