use Rattle.std.proofs.Common.{rules, ◌≡◌, ◌<◌, length, get_or, arith}
use Rattle.anti_ids.proofs.WalkLemmas.{same_longer}
use Rattle.anti_ids.proofs.walk.same_front.Goals as goal

pub loop-at-preserved : goal.loop-at-preserved
loop-at-preserved c =
    let at = c.loop-at.at in
    let one = c.args.one.now in
    let other = c.args.other.now in
    let first : get_or one at c.index-one-at.result ≡ c.index-one-at.result = search rules in
    let second : get_or other at c.index-other-at.result ≡ c.index-other-at.result = search rules in
    let same : c.index-one-at.result ≡ c.index-other-at.result = search rules in
    let short : at < c.min-len.result = search rules in
    let in_one : at < length one = search rules in
    let in_other : at < length other = search rules in
    record {
      same = same_longer one other at c.index-one-at.result c.index-other-at.result in_one in_other first second same c.loop-at.invariant.same;
      within = omega (arith, short);
    }
