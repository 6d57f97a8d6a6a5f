use Rattle.std.proofs.Common.{◌≡◌, ◌-◌, ◌<◌, List, [], length, get_or, ap, ◌∙◌, arith}
use Rattle.std.proofs.lemmas.List.{get_or_default}
use Rattle.anti_ids.specs.declared.id.WriteId.{WriteId}
use Rattle.anti_ids.proofs.PartLemmas.{step_length}
use Rattle.anti_ids.proofs.id_parts.part_at.Goals as goal

pub overflow_sub-start : goal.overflow_sub-start
overflow_sub-start c =
    let part = c.index-parts-number.result in
    omega (arith, step_length c.args.parts.now c.loop-number.number part part c.loop-number-test.true c.loop-number.invariant.among c.index-parts-number.is, c.loop-number.invariant.start, c.len-start.ensures)

pub returns-then-start-at : goal.returns-then-start-at
returns-then-start-at c =
    let ps = c.args.parts.now in
    let number = c.loop-number.number in
    let part = c.index-parts-number.result in
    let sizes = step_length ps number part part c.loop-number-test.true c.loop-number.invariant.among c.index-parts-number.is in
    let among : number - 1 < length ps = omega (arith, c.loop-number-test.true, c.loop-number.invariant.among) in
    let size : length part ≡ length (get_or ps (number - 1) []) = ap (λ (p : List WriteId). length p) (c.index-parts-number.is ∙ get_or_default ps (number - 1) part [] among) in
    record {
      among = among;
      inside = omega (arith, size, sizes, c.loop-number.invariant.start, c.loop-number.invariant.inside, c.len-start.ensures, c.if-start-at.true);
      place = omega (arith, sizes, c.loop-number.invariant.start, c.len-start.ensures, c.if-start-at.true);
    }

pub loop-number-preserved : goal.loop-number-preserved
loop-number-preserved c =
    let part = c.index-parts-number.result in
    let sizes = step_length c.args.parts.now c.loop-number.number part part c.loop-number-test.true c.loop-number.invariant.among c.index-parts-number.is in
    record {
      among = omega arith;
      start = omega (arith, sizes, c.loop-number.invariant.start, c.len-start.ensures);
      inside = omega (arith, c.if-start-at.false);
    }
