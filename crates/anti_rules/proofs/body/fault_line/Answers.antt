use Rattle.std.proofs.Common.{arith}
use Rattle.std.proofs.lemmas.Grind.{common_steps}
use Rattle.anti_rules.proofs.body.fault_line.Goals as goal

pub returns-else-body-le-MOST_LINES : goal.returns-else-body-le-MOST_LINES
returns-else-body-le-MOST_LINES c = grind (arith, common_steps)

pub line_with-requires : goal.line_with-requires
line_with-requires c = grind (arith, common_steps)

pub returns-in_ok-lines : goal.returns-in_ok-lines
returns-in_ok-lines c = grind (arith, common_steps)
