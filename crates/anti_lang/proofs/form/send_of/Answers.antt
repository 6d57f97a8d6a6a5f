use Rattle.std.proofs.Common.{arith}
use Rattle.anti_lang.proofs.form.send_of.Goals as goal

pub returns-in-Some-2 : goal.returns-in-Some-2
returns-in-Some-2 c =
    let service = c.in-Some.ensures in
    let handler = c.in-Some-plain_name.ensures in
    let value = c.in_ok-value.ensures in
    grind arith

pub returns-in-None : goal.returns-in-None
returns-in-None c = grind arith
