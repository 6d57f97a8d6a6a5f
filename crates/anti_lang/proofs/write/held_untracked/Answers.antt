use Rattle.std.proofs.Common.{◌≡◌, true, Some, arith, rules}
use Rattle.std.specs.Prelude.{codes}
use Rattle.std.specs.Bool.{then_some}
use Rattle.std.specs.Str.{bytes_eq}
use Rattle.anti_lang.specs.Lines.{are_as}
use Rattle.anti_lang.proofs.OtherWords.{untracked_behind}
use Rattle.anti_lang.proofs.write.held_untracked.Goals as goal

pub returns-then-ne : goal.returns-then-ne
returns-then-ne c = λ store key value. grind arith

pub returns : goal.returns
returns c = λ store key value.
    let end : bytes_eq c.args.last.now (codes "untracked") ≡ true = grind arith in
    let named : Some c.in_ok-variable_behind.field-0 ≡ then_some (are_as c.args.joint.now c.args.variable.now) c.args.variable.now = search rules in
    untracked_behind store key value c.args.joint.now c.args.variable.now c.args.last.now c.in_ok-variable_behind.field-0 named end
