use Rattle.std.proofs.Common.{◌≡◌, sym, ◌∙◌, rules, take, drop}
use Rattle.anti_ids.proofs.LeftLemmas.{all_left}
use Rattle.anti_ids.proofs.left.left_range.Goals as goal

pub returns : goal.returns
returns c =
    let range : c.in_ok-range.range ≡ take c.args.len (drop c.args.from c.args.block.now) = search rules in
    range ∙ sym (all_left c.args.words.now c.args.from (take c.args.len (drop c.args.from c.args.block.now)) (c.is_any_gone.ensures (search rules)))
