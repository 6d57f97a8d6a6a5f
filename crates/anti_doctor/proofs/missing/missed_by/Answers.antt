use Rattle.std.proofs.Common.{◌≡◌, ◌<◌, ◌++◌, ℕ, List, [], cond, length, sym, ap, ◌∙◌, subst, append-nil, Bool}
use Rattle.std.specs.Prelude.{Some}
use Rattle.std.specs.BTreeMap as tree
use Rattle.std.specs.BTreeMap.Range.{IsEntryInRange, entries_between}
use Rattle.std.specs.Global.{Vec}
use Rattle.std.specs.Map.Iter.{deref_pair}
use Rattle.std.specs.Option.{option_to_list}
use Rattle.std.specs.declared.ops.Bound.TheVariants.{Included, Unbounded}
use Rattle.std.proofs.lemmas.List.Elements.{All-same, All-weaker}
use Rattle.std.proofs.lemmas.Map.Views.{All-turn}
use Rattle.anti_doctor.specs.declared.write_index.StoreKey.{StoreKey}
use Rattle.anti_doctor.specs.Missed.{AreMissedAt}
use Rattle.anti_doctor.specs.inner.Indexes.{key_cmp, places_before}
use Rattle.anti_doctor.specs.inner.Missing.{Ascend, missed_from, missed_under}
use Rattle.anti_doctor.proofs.KeyWrites.{ascend, each_low}
use Rattle.anti_doctor.proofs.MissedMost.{are_missed, under_key}
use Rattle.anti_doctor.proofs.missing.missed_by.Goals as goal

pub returns : goal.returns
returns c = λ past told.
    let trace = c.args.trace.now in
    let set = c.args.set.now in
    let m = c.args.index.now in
    let e = c.at-entry.result.now in
    let first = c.in-Some.first in
    let missed = c.loop-key.missed.items in
    let gives = c.into_iter-key-iterator.ensures.into_iter_gives in
    let all : missed ≡ missed_from trace set e (entries_between key_cmp (Included first) Unbounded m.entries) =
    sym (append-nil missed)
    ∙ ap (λ (es : List (StoreKey × Vec ℕ)). missed ++ missed_from trace set e es) (sym c.in-None.ensures.steps.0)
    ∙ c.loop-key.invariant
    ∙ ap (missed_from trace set e) (gives ∙ c.range-key-items.ensures.between tt) in
    subst (AreMissedAt trace past c.args.read) (sym all)
    (are_missed c.requires.legal.0 trace c.requires.legal.1 m c.range-key-items.ensures.ordered c.requires.index past set c.args.read e c.at-entry.ensures told
    first (sym c.in-Some.ensures))

pub returns-then-not-is_spoken : goal.returns-then-not-is_spoken
returns-then-not-is_spoken c = λ past told.
    let trace = c.args.trace.now in
    let set = c.args.set.now in
    let m = c.args.index.now in
    let e = c.at-entry.result.now in
    let first = c.in-Some.first in
    let missed = c.loop-key.missed.items in
    let x : StoreKey × Vec ℕ = (c.in-Some-2.key.now, c.in-Some-2.places.now) in
    let gives = c.into_iter-key-iterator.ensures.into_iter_gives in
    let all : missed ≡ missed_from trace set e (entries_between key_cmp (Included first) Unbounded m.entries) =
    sym (append-nil missed)
    ∙ ap (λ (t : Bool). missed ++ cond t (option_to_list (missed_under trace set e x) ++ missed_from trace set e c.next.new.self) []) c.if-not-is_spoken.ensures
    ∙ ap (λ (es : List (StoreKey × Vec ℕ)). missed ++ missed_from trace set e es) (sym c.in-Some-2.ensures.steps)
    ∙ c.loop-key.invariant
    ∙ ap (missed_from trace set e) (gives ∙ c.range-key-items.ensures.between tt) in
    subst (AreMissedAt trace past c.args.read) (sym all)
    (are_missed c.requires.legal.0 trace c.requires.legal.1 m c.range-key-items.ensures.ordered c.requires.index past set c.args.read e c.at-entry.ensures told
    first (sym c.in-Some.ensures))

pub newest_missed-newest-requires-clause-places : goal.newest_missed-newest-requires-clause-places
newest_missed-newest-requires-clause-places c =
    let trace = c.args.trace.now in
    let m = c.args.index.now in
    let first = c.in-Some.first in
    let there : tree.get key_cmp m c.in-Some-2.key.now ≡ Some c.in-Some-2.places.now =
    All-turn deref_pair (λ x. tree.get key_cmp m x.0 ≡ Some x.1) _ _ _ _ _ _ _
    (All-weaker (IsEntryInRange key_cmp (Included first) Unbounded m) (λ x. tree.get key_cmp m x.0 ≡ Some x.1) (λ x is. is.1) _ (c.range-key-items.ensures.in_range tt).0)
    c.into_iter-key-iterator.ensures.into_iter_gives c.loop-key.yielded_by c.in-Some-2.is c.next.ensures.steps in
    All-same (λ p. p < length trace) c.as_slice.result.now (places_before trace (length trace) c.in-Some-2.key.now)
    (c.as_slice.ensures.value ∙ under_key c.requires.legal.0 trace c.requires.legal.1 m c.range-key-items.ensures.ordered c.requires.index c.in-Some-2.key.now c.in-Some-2.places.now there)
    (each_low trace c.in-Some-2.key.now)

pub newest_missed-newest-requires-clause-ascending :
    goal.newest_missed-newest-requires-clause-ascending
newest_missed-newest-requires-clause-ascending c =
    let trace = c.args.trace.now in
    let m = c.args.index.now in
    let first = c.in-Some.first in
    let there : tree.get key_cmp m c.in-Some-2.key.now ≡ Some c.in-Some-2.places.now =
    All-turn deref_pair (λ x. tree.get key_cmp m x.0 ≡ Some x.1) _ _ _ _ _ _ _
    (All-weaker (IsEntryInRange key_cmp (Included first) Unbounded m) (λ x. tree.get key_cmp m x.0 ≡ Some x.1) (λ x is. is.1) _ (c.range-key-items.ensures.in_range tt).0)
    c.into_iter-key-iterator.ensures.into_iter_gives c.loop-key.yielded_by c.in-Some-2.is c.next.ensures.steps in
    subst (Ascend trace)
    (sym (c.as_slice.ensures.value
    ∙ under_key c.requires.legal.0 trace c.requires.legal.1 m c.range-key-items.ensures.ordered c.requires.index c.in-Some-2.key.now c.in-Some-2.places.now there))
    (ascend c.requires.legal.0 trace c.requires.legal.1 c.in-Some-2.key.now)
