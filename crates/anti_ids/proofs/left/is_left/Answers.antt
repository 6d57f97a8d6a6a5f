use Rattle.std.proofs.Common.{not, ap, sym, ◌∙◌, rules}
use Rattle.anti_ids.proofs.LeftLemmas.{left_where, absent_left}
use Rattle.anti_ids.proofs.left.is_left.Goals as goal

pub returns-in-Ok : goal.returns-in-Ok
returns-in-Ok c = ap not c.is_gone.ensures ∙ sym (left_where c.args.id.now c.args.block.now c.in-Ok.at (search rules) (search rules) c.args.words.now)

pub returns-in-Err : goal.returns-in-Err
returns-in-Err c = sym (absent_left c.args.id.now c.args.words.now 0 c.args.block.now (search rules))
