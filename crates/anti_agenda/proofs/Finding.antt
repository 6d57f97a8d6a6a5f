-- The first that is awake, and the first who sleeps for what is brought.
use Rattle.std.proofs.Common.{◌≡◌, ℕ, true, false, List, [], ◌∷◌, Contains, Option, refl, sym, ap, subst, arith, None, Some, IfSome}
use Rattle.std.specs.declared.ops.Bound.TheVariants.{Included, Unbounded}
use Rattle.std.specs.declared.cmp.Ordering.{Ordering}
use Rattle.std.specs.BTreeMap.Range.{IsLeBy}
use Rattle.std.specs.BTreeSet.{BTreeSet, IsKeyInRange, IsKeyRangeOf, contains, keys}
use Rattle.std.specs.Ordering.{is_gt, nat_cmp, ordering_then}
use Rattle.std.specs.Prelude.{slice_get}
use Rattle.std.proofs.lemmas.Bool.{false_from_ne_true}
use Rattle.anti_kind.specs.declared.awaited.Awaited.{Awaited}
use Rattle.anti_kind.specs.declared.awaited.Brought.{Brought}
use Rattle.anti_agenda.specs.Agendas.{IsFirst, sleeper}
use Rattle.anti_agenda.specs.declared.agenda.Agenda.{Agenda}
use Rattle.anti_agenda.specs.declared.offer.Offer.{Offer}
use Rattle.anti_agenda.specs.declared.offer.Offer.TheVariants.{Go}
use Rattle.anti_agenda.specs.declared.offer.Sleeper.{Sleeper}
use Rattle.anti_agenda.specs.inner.Front.{offer_cmp}
use Rattle.anti_agenda.specs.inner.Waking.{IsFirstOf, NoneWaits, brings, first_brought}
use Rattle.anti_agenda.proofs.Brought.{IsFromFirst, brings_between, from_first}
use Rattle.anti_agenda.proofs.KeySets.{found_is, is_found}
use Rattle.anti_agenda.proofs.Orders.{at_most, awaited_cmp, none_before, sleeper_cmp, sleepers_exact, sleepers_total, tied, up_to_both, up_to_first, up_to_second}

-- ---- the first that is awake

pub first_is : (agenda : Agenda) (first : Option Offer) → IsFirstOf agenda.awake first → IsFirst agenda first
first_is agenda None is = is
first_is agenda (Some first) is = is

-- ---- the first who sleeps for what is brought

abbrev pub least_at : ℕ → Awaited → Sleeper
least_at object awaited = sleeper object awaited (Go 0 0)

-- how two who sleep at one object are compared
abbrev pub by_rest : Awaited → Awaited → Offer → Offer → Ordering
by_rest a b first second = ordering_then (awaited_cmp a b) (offer_cmp first second)

module _ (asleep : BTreeSet Sleeper) (object : ℕ) (what : Brought) (first : Awaited) (is_first : first_brought what ≡ Some first)
    (range : List Sleeper) (holds : IsKeyRangeOf sleeper_cmp (Included (least_at object first)) Unbounded asleep range) where
  -- who waits for what is brought is in the range
  in_range : (awaited : Awaited) (offer : Offer) → brings what awaited ≡ true
      → is_gt (sleeper_cmp (least_at object first) (sleeper object awaited offer)) ≡ false
  in_range awaited offer is =
      let from : is_gt (awaited_cmp first awaited) ≡ false =
      subst (λ (o : Option Awaited). IfSome o (λ a. is_gt (awaited_cmp a awaited) ≡ false)) is_first (from_first what awaited is) in
      up_to_both (nat_cmp object object) (by_rest first awaited (Go 0 0) offer) (ap is_gt (tied object object refl))
      (up_to_both (awaited_cmp first awaited) (offer_cmp (Go 0 0) offer) from (none_before offer))

  pub none_in_range : range ≡ [] → NoneWaits object what asleep
  none_in_range none awaited offer sleeps =
      false_from_ne_true (brings what awaited)
      (λ is.
      let found : contains sleeper_cmp asleep (sleeper object awaited offer) ≡ true =
      is_found sleepers_total sleepers_exact asleep (sleeper object awaited offer) sleeps in
      let lost : contains sleeper_cmp asleep (sleeper object awaited offer) ≡ false =
      holds.5 none (sleeper object awaited offer) (in_range awaited offer is, tt) in
      absurd (cc))

  -- what holds of the first of the range
  at_head : (P : Sleeper → Type 0) (one : Sleeper) (rest : List Sleeper) → range ≡ one ∷ rest → IfSome (slice_get range 0) P → P one
  at_head P one rest begins holds_first = subst (λ (xs : List Sleeper). IfSome (slice_get xs 0) P) begins holds_first

  module _ (one : Sleeper) (rest : List Sleeper) (begins : range ≡ one ∷ rest) where
    head : IsKeyInRange sleeper_cmp (Included (least_at object first)) Unbounded asleep one
    head = at_head (IsKeyInRange sleeper_cmp (Included (least_at object first)) Unbounded asleep) one rest begins holds.1

    -- the first of the range is asleep
    pub head_sleeps : Contains (keys asleep) one
    head_sleeps = found_is sleepers_total sleepers_exact asleep one head.1

    -- where the first of the range does not wait for it, nobody does
    pub head_decides : (one.object ≡ object → brings what one.awaited ≡ true → ⊥) → NoneWaits object what asleep
    head_decides not_one awaited offer sleeps =
        false_from_ne_true (brings what awaited)
        (λ is.
        let last : Sleeper = sleeper object awaited offer in
        let found : contains sleeper_cmp asleep last ≡ true = is_found sleepers_total sleepers_exact asleep last sleeps in
        let upto : is_gt (sleeper_cmp one last) ≡ false =
        at_head (λ k. IsLeBy sleeper_cmp k last) one rest begins (holds.2 last (in_range awaited offer is, tt) found) in
        let before : Ordering = by_rest first one.awaited (Go 0 0) one.offer in
        let behind : Ordering = by_rest one.awaited awaited one.offer offer in
        let there = at_most object one.object (up_to_first (nat_cmp object one.object) before head.0.0) in
        let back = at_most one.object object (up_to_first (nat_cmp one.object object) behind upto) in
        let same : one.object ≡ object = grind (arith, there, back) in
        let from : is_gt (awaited_cmp first one.awaited) ≡ false =
        up_to_first (awaited_cmp first one.awaited) (offer_cmp (Go 0 0) one.offer)
        (up_to_second (nat_cmp object one.object) before (tied object one.object (sym same)) head.0.0) in
        let at_most_last : is_gt (awaited_cmp one.awaited awaited) ≡ false =
        up_to_first (awaited_cmp one.awaited awaited) (offer_cmp one.offer offer)
        (up_to_second (nat_cmp one.object object) behind (tied one.object object same) upto) in
        let from_the_first : IsFromFirst what one.awaited =
        subst (λ (o : Option Awaited). IfSome o (λ a. is_gt (awaited_cmp a one.awaited) ≡ false)) (sym is_first) from in
        not_one same (brings_between what one.awaited awaited from_the_first at_most_last is))
