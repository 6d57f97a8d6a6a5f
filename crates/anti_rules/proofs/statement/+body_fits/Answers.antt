use Rattle.std.proofs.Common.{arith}
use Rattle.std.proofs.lemmas.Grind.{common_steps}
use Rattle.anti_rules.proofs.FittingLines.{if_fits, repeat_fits, then_fits}
use Rattle.anti_rules.proofs.statement.+body_fits.Goals as goal

pub returns : goal.returns
returns t c = grind (arith, common_steps)

pub returns-then-not-statement_fits : goal.returns-then-not-statement_fits
returns-then-not-statement_fits t c = grind (arith, common_steps)

pub returns-then-not-body_fits : goal.returns-then-not-body_fits
returns-then-not-body_fits t c = grind (arith, common_steps, then_fits, repeat_fits)

pub returns-then-not-body_fits-2 : goal.returns-then-not-body_fits-2
returns-then-not-body_fits-2 t c = grind (arith, common_steps, then_fits, if_fits)
