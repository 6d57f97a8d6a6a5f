use Rattle.std.proofs.Common.{arith}
use Rattle.anti_lang.proofs.form.poll_of.Goals as goal

pub returns : goal.returns
returns c = grind arith

pub returns-in_err-cell_of : goal.returns-in_err-cell_of
returns-in_err-cell_of c = grind arith
