use Rattle.std.proofs.Common.{arith}
use Rattle.anti_lang.proofs.form.scan_of.Goals as goal

pub returns-in_err-plain_name : goal.returns-in_err-plain_name
returns-in_err-plain_name c = grind arith

pub returns-in_err-plain_name-2 : goal.returns-in_err-plain_name-2
returns-in_err-plain_name-2 c = grind arith

pub returns : goal.returns
returns c = grind arith
