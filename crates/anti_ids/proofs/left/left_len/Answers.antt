use Rattle.std.proofs.Common.{◌≡◌, length, ap, arith, rules}
use Rattle.anti_ids.specs.inner.Left.{gone_in}
use Rattle.anti_ids.proofs.LeftLemmas.{all_left, length-left}
use Rattle.anti_ids.proofs.left.left_len.Goals as goal

pub overflow_sub-result : goal.overflow_sub-result
overflow_sub-result c =
    let gone : c.count_gone.result ≡ gone_in c.args.words.now 0 (length c.args.block.now) = search rules in
    omega (arith, gone, length-left c.args.words.now 0 c.args.block.now, c.len-len.ensures)

pub returns-then-is_any_gone : goal.returns-then-is_any_gone
returns-then-is_any_gone c =
    let gone : c.count_gone.result ≡ gone_in c.args.words.now 0 (length c.args.block.now) = search rules in
    omega (arith, gone, length-left c.args.words.now 0 c.args.block.now, c.len-len.ensures)

pub returns : goal.returns
returns c = omega (arith, c.len-len.ensures, ap length (all_left c.args.words.now 0 c.args.block.now (search rules)))
