use Rattle.std.proofs.Common.{rules, ◌≡◌, ◌<◌, ◌%◌, ◌^◌, ◌+◌, ◌-◌, ◌*◌, min, count_ones, get_or, arith}
use Rattle.anti_ids.specs.inner.Left.{gone_in}
use Rattle.anti_ids.proofs.GoneLemmas.{gone_in-step}
use Rattle.anti_ids.proofs.marks.count_gone.Goals as goal

pub loop-number-preserved : goal.loop-number-preserved
loop-number-preserved c =
    let words = c.args.words.now in
    let number = c.loop-number.number in
    let bits = min (c.args.len - number * 64) 64 in
    let more : number * 64 < c.args.len = search rules in
    let step : gone_in words (number * 64) (c.args.len - number * 64) ≡ count_ones (get_or words number 0 % 2 ^ bits) + gone_in words ((number + 1) * 64) (c.args.len - (number + 1) * 64) =
    gone_in-step words number c.args.len bits more (search rules) in
    let ones : c.ones_among-count.result ≡ count_ones (get_or words number 0 % 2 ^ bits) = search rules in
    record {
      sum = omega (arith, step, ones, c.loop-number.invariant.sum);
      few = omega (arith, c.ones_among-count.ensures.few, c.loop-number.invariant.few);
      among = omega (arith, more, c.requires.few);
    }
