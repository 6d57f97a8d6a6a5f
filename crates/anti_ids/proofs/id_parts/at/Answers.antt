use Rattle.std.proofs.Common.{◌≡◌, ◌+◌, ◌-◌, ◌<◌, ◌++◌, List, length, take, drop, sym, ap, ◌∙◌, arith}
use Rattle.std.specs.Prelude.{Some, slice_get}
use Rattle.anti_ids.specs.declared.id.WriteId.{WriteId}
use Rattle.anti_ids.specs.inner.Parts.{joined}
use Rattle.anti_ids.proofs.PartLemmas.{step_length, step_whole, at_within}
use Rattle.anti_ids.proofs.id_parts.at.Goals as goal

pub overflow_sub-start : goal.overflow_sub-start
overflow_sub-start c =
    let is = c.ids-ids.ensures ∙ c.index-parts-number.is in
    omega (arith, step_length c.args.parts.now c.loop-number.number c.ids-ids.result.now c.index-parts-number.result c.loop-number-test.true c.loop-number.invariant.among is, c.loop-number.invariant.start)

pub returns-then-start-index : goal.returns-then-start-index
returns-then-start-index c =
    let ps = c.args.parts.now in
    let number = c.loop-number.number in
    let part = c.ids-ids.result.now in
    let front = joined (take (number - 1) ps) in
    let is = c.ids-ids.ensures ∙ c.index-parts-number.is in
    let sizes : length front + length part ≡ length (joined (take number ps)) = step_length ps number part c.index-parts-number.result c.loop-number-test.true c.loop-number.invariant.among is in
    let k = c.args.index - (c.loop-number.start - length part) in
    let place : length front + k ≡ c.args.index = omega (arith, sizes, c.loop-number.invariant.start, c.if-start-index.true) in
    let within : k < length part = omega (arith, sizes, c.loop-number.invariant.start, c.loop-number.invariant.inside, c.if-start-index.true) in
    ap (λ (x : List WriteId). slice_get x c.args.index) (step_whole ps number part c.index-parts-number.result c.loop-number-test.true c.loop-number.invariant.among is)
    ∙ sym (ap (λ n. slice_get (front ++ (part ++ joined (drop number ps))) n) place)
    ∙ at_within front part (joined (drop number ps)) k c.index-ids-index.result within
    ∙ ap (λ (x : WriteId). Some x) (sym c.index-ids-index.is)

pub loop-number-preserved : goal.loop-number-preserved
loop-number-preserved c =
    let is = c.ids-ids.ensures ∙ c.index-parts-number.is in
    let sizes = step_length c.args.parts.now c.loop-number.number c.ids-ids.result.now c.index-parts-number.result c.loop-number-test.true c.loop-number.invariant.among is in
    record {
      among = omega arith;
      start = omega (arith, sizes, c.loop-number.invariant.start);
      inside = omega (arith, c.if-start-index.false);
    }
