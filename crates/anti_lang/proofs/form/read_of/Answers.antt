use Rattle.std.proofs.Common.{arith}
use Rattle.anti_lang.proofs.form.read_of.Goals as goal

pub returns-in_err-key_of : goal.returns-in_err-key_of
returns-in_err-key_of c = grind arith

pub returns : goal.returns
returns c = grind arith
