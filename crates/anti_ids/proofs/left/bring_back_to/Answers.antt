use Rattle.std.proofs.Common.{◌≡◌, true, not, ap, ◌∙◌, rules}
use Rattle.anti_ids.specs.inner.Left.{is_gone}
use Rattle.anti_ids.proofs.LeftLemmas.{left_where, left_with_one}
use Rattle.anti_ids.proofs.left.bring_back_to.Goals as goal

pub returns-clause-ids : goal.returns-clause-ids
returns-clause-ids c = λ back.
    left_with_one c.args.id.now c.args.block.now c.in-Ok.at (search rules) (search rules) c.args.words.now c.unmark.new.words (search rules) c.unmark.ensures.back c.unmark.ensures.others

pub returns-clause-new : goal.returns-clause-new
returns-clause-new c = λ back.
    let gone : is_gone c.args.words.now c.in-Ok.at ≡ true = search rules in
    left_where c.args.id.now c.args.block.now c.in-Ok.at (search rules) (search rules) c.args.words.now ∙ ap not gone
