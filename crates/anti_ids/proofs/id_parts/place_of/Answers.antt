use Rattle.std.proofs.Common.{◌≡◌, ◌-◌, ◌++◌, List, true, length, take, drop, sym, ◌∙◌, subst, arith, rules}
use Rattle.std.specs.declared.cmp.Ordering.TheVariants.{Greater}
use Rattle.anti_ids.specs.Each.{Each}
use Rattle.anti_ids.specs.declared.id.WriteId.{WriteId}
use Rattle.anti_ids.specs.Ids.{id_cmp}
use Rattle.anti_ids.specs.Invariants.{IsAscending}
use Rattle.anti_ids.specs.inner.Parts.{joined, shifted}
use Rattle.anti_ids.specs.inner.Places.{IsPlace}
use Rattle.anti_ids.proofs.Places.{goes_to}
use Rattle.anti_ids.proofs.PartLemmas.{step_length, step_behind, step_whole, ascending_part, each_append, place_whole}
use Rattle.anti_ids.proofs.id_parts.place_of.Goals as goal

pub overflow_sub-start : goal.overflow_sub-start
overflow_sub-start c =
    let is = c.ids-ids.ensures ∙ c.index-parts-number.is in
    omega (arith, step_length c.args.parts.now c.loop-number.number c.ids-ids.result.now c.index-parts-number.result c.loop-number-test.true c.loop-number.invariant.among is, c.loop-number.invariant.start)

pub begins_behind-requires : goal.begins_behind-requires
begins_behind-requires c =
    let ps = c.args.parts.now in
    let number = c.loop-number.number in
    let part = c.ids-ids.result.now in
    let is = c.ids-ids.ensures ∙ c.index-parts-number.is in
    ascending_part (joined (take (number - 1) ps)) part (joined (drop number ps))
    (subst IsAscending (step_whole ps number part c.index-parts-number.result c.loop-number-test.true c.loop-number.invariant.among is) c.requires.ascending)

pub place_of-requires : goal.place_of-requires
place_of-requires c =
    let ps = c.args.parts.now in
    let number = c.loop-number.number in
    let part = c.ids-ids.result.now in
    let is = c.ids-ids.ensures ∙ c.index-parts-number.is in
    ascending_part (joined (take (number - 1) ps)) part (joined (drop number ps))
    (subst IsAscending (step_whole ps number part c.index-parts-number.result c.loop-number-test.true c.loop-number.invariant.among is) c.requires.ascending)

pub returns-then-not-begins_behind : goal.returns-then-not-begins_behind
returns-then-not-begins_behind c =
    let ps = c.args.parts.now in
    let number = c.loop-number.number in
    let part = c.ids-ids.result.now in
    let front = joined (take (number - 1) ps) in
    let back = joined (drop number ps) in
    let id = c.args.id.now in
    let is = c.ids-ids.ensures ∙ c.index-parts-number.is in
    let whole : joined ps ≡ front ++ (part ++ back) = step_whole ps number part c.index-parts-number.result c.loop-number-test.true c.loop-number.invariant.among is in
    let start : length front ≡ c.loop-number.start - length part =
    omega (arith, step_length ps number part c.index-parts-number.result c.loop-number-test.true c.loop-number.invariant.among is, c.loop-number.invariant.start) in
    let begun : Each (λ j. id_cmp j id ≡ Greater) part → ⊥ = λ each. let all : c.begins_behind.result ≡ true = c.begins_behind.ensures.1 each in absurd (cc) in
    let told : IsPlace id (front ++ (part ++ back)) (shifted (length front) c.place_of.result) =
    place_whole id front part back c.place_of.result (subst IsAscending whole c.requires.ascending) c.loop-number.invariant.high begun c.place_of.ensures in
    subst (λ r. IsPlace id (joined ps) r) (sym c.shifted.ensures)
    (subst (λ n. IsPlace id (joined ps) (shifted n c.place_of.result)) start (subst (λ (x : List WriteId). IsPlace id x (shifted (length front) c.place_of.result)) (sym whole) told))

pub loop-number-preserved : goal.loop-number-preserved
loop-number-preserved c =
    let ps = c.args.parts.now in
    let number = c.loop-number.number in
    let part = c.ids-ids.result.now in
    let is = c.ids-ids.ensures ∙ c.index-parts-number.is in
    let sizes = step_length ps number part c.index-parts-number.result c.loop-number-test.true c.loop-number.invariant.among is in
    let behind : Each (λ j. id_cmp j c.args.id.now ≡ Greater) part = let all : c.begins_behind.result ≡ true = search rules in c.begins_behind.ensures.0 all in
    record {
      among = omega arith;
      start = omega (arith, sizes, c.loop-number.invariant.start);
      high = subst (λ (x : List WriteId). Each (λ j. id_cmp j c.args.id.now ≡ Greater) x) (sym (step_behind ps number part c.index-parts-number.result c.loop-number-test.true c.loop-number.invariant.among is))
          (each_append (λ j. id_cmp j c.args.id.now ≡ Greater) part (joined (drop number ps)) behind c.loop-number.invariant.high);
    }

pub returns : goal.returns
returns c =
    let ps = c.args.parts.now in
    let none : c.loop-number.number ≡ 0 = omega (arith, c.loop-number-test.false) in
    goes_to c.args.id.now (joined ps) 0 (omega arith) tt (subst (λ n. Each (λ j. id_cmp j c.args.id.now ≡ Greater) (joined (drop n ps))) none c.loop-number.invariant.high)
