use Rattle.std.proofs.Common.{arith}
use Rattle.anti_lang.proofs.form.call_of.Goals as goal

pub returns-in-None : goal.returns-in-None
returns-in-None c = grind arith

pub returns-in_default : goal.returns-in_default
returns-in_default c = grind arith

pub returns-in_default-plain_name : goal.returns-in_default-plain_name
returns-in_default-plain_name c = grind arith
