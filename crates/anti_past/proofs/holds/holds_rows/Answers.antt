use Rattle.std.proofs.Common.{arith}
use Rattle.std.proofs.lemmas.Grind.{common_steps}
use Rattle.anti_past.proofs.holds.holds_rows.Goals as goal

pub loop-row-preserved : goal.loop-row-preserved
loop-row-preserved c = grind (arith, common_steps)

pub returns-then-not-holds_row : goal.returns-then-not-holds_row
returns-then-not-holds_row c = grind (arith, common_steps)

pub returns : goal.returns
returns c = grind (arith, common_steps)
