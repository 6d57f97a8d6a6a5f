use Rattle.std.proofs.Common.{◌≡◌, ◌∷◌, [], List, arith, sym, subst, rules}
use Rattle.std.specs.declared.cmp.Ordering.TheVariants.{Less, Greater}
use Rattle.anti_ids.specs.Each.{Each}
use Rattle.anti_ids.specs.declared.id.WriteId.{WriteId}
use Rattle.anti_ids.specs.Invariants.{IsAscending}
use Rattle.anti_ids.specs.Ids.{id_cmp}
use Rattle.anti_ids.specs.inner.Stores.{Passed}
use Rattle.anti_ids.proofs.PartLemmas.{all_behind}
use Rattle.anti_ids.proofs.WalkLemmas.{more_passed, passed_ascending, goes_between, stands_between}
use Rattle.anti_ids.proofs.walk.Walk.place_of.Goals as goal

pub loop-other-preserved : goal.loop-other-preserved
loop-other-preserved c =
    let id = c.args.id.now in
    let other = c.in-Some.other.now in
    more_passed (λ j. id_cmp j id ≡ Less) c.into_iter-other-iterator.result c.loop-other.other-iterator (other ∷ []) c.next.new.self c.loop-other.at _ c.loop-other.invariant
    c.in-Some.ensures.steps (search rules, tt) (omega arith)

pub returns-in-Equal : goal.returns-in-Equal
returns-in-Equal c =
    let id = c.args.id.now in
    let other = c.in-Some.other.now in
    let step : c.loop-other.other-iterator ≡ other ∷ c.next.new.self = c.in-Some.ensures.steps in
    stands_between id other c.args.self c.next.new.self c.loop-other.at c.requires.ascending
    (subst (λ (x : List WriteId). Passed (λ j. id_cmp j id ≡ Less) c.args.self x c.loop-other.at) step (search rules)) (search rules)

pub returns-in-Greater : goal.returns-in-Greater
returns-in-Greater c =
    let id = c.args.id.now in
    let other = c.in-Some.other.now in
    let step : c.loop-other.other-iterator ≡ other ∷ c.next.new.self = c.in-Some.ensures.steps in
    let asc = subst IsAscending step (passed_ascending (λ j. id_cmp j id ≡ Less) c.into_iter-other-iterator.result c.loop-other.other-iterator c.loop-other.at c.loop-other.invariant (search rules)) in
    goes_between id c.args.self c.loop-other.other-iterator c.loop-other.at (search rules)
    (subst (λ (x : List WriteId). Each (λ j. id_cmp j id ≡ Greater) x) (sym step) (all_behind id other c.next.new.self asc (search rules)))

pub returns : goal.returns
returns c =
    let id = c.args.id.now in
    let none : c.loop-other.other-iterator ≡ [] = search rules in
    goes_between id c.args.self c.loop-other.other-iterator c.loop-other.at (search rules)
    (subst (λ (x : List WriteId). Each (λ j. id_cmp j id ≡ Greater) x) (sym none) tt)
