use Rattle.std.proofs.Common.{◌≡◌, true, false, not, ap, sym, ◌∙◌, rules}
use Rattle.anti_ids.specs.inner.Left.{is_gone, left_of}
use Rattle.anti_ids.proofs.LeftLemmas.{absent_left, left_where, left_without_one, without_absent}
use Rattle.anti_ids.proofs.left.take_from.Goals as goal

pub returns-in_default-clause-found : goal.returns-in_default-clause-found
returns-in_default-clause-found c = sym (absent_left c.args.id.now c.args.words.now 0 c.args.block.now (search rules))

pub returns-in_default-clause-ids : goal.returns-in_default-clause-ids
returns-in_default-clause-ids c =
    sym (without_absent c.args.id.now (left_of c.args.words.now 0 c.args.block.now) (absent_left c.args.id.now c.args.words.now 0 c.args.block.now (search rules)))

pub returns-then-is_gone-clause-found : goal.returns-then-is_gone-clause-found
returns-then-is_gone-clause-found c =
    let gone : is_gone c.args.words.now c.in-Ok.at ≡ true = search rules in
    sym (left_where c.args.id.now c.args.block.now c.in-Ok.at (search rules) (search rules) c.args.words.now ∙ ap not gone)

pub returns-then-is_gone-clause-ids : goal.returns-then-is_gone-clause-ids
returns-then-is_gone-clause-ids c =
    sym (without_absent c.args.id.now (left_of c.args.words.now 0 c.args.block.now) (sym (returns-then-is_gone-clause-found c)))

pub returns-clause-found : goal.returns-clause-found
returns-clause-found c =
    let left : is_gone c.args.words.now c.in-Ok.at ≡ false = search rules in
    sym (left_where c.args.id.now c.args.block.now c.in-Ok.at (search rules) (search rules) c.args.words.now ∙ ap not left)

pub returns-clause-ids : goal.returns-clause-ids
returns-clause-ids c =
    left_without_one c.args.id.now c.args.block.now c.in-Ok.at (search rules) (search rules) c.args.words.now c.mark.new.words c.mark.ensures.gone c.mark.ensures.others
