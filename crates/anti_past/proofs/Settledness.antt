-- The tests of a settled read say whether it is settled.
use Rattle.std.proofs.Common.{◌≡◌, ◌↔◌, ℕ, zero, suc, ◌<◌, ◌||◌, Bool, true, false, not, List, [], ◌∷◌, refl, sym, ap, ◌∙◌, inl, inr, arith}
use Rattle.std.specs.Prelude.{Some, slice_get, take}
use Rattle.std.specs.List.{list_any}
use Rattle.std.proofs.lemmas.Bool.{and_from, and_parts, or_cases, or_left, or_right}
use Rattle.anti_ids.specs.Ids.{has_id}
use Rattle.anti_ids.specs.declared.id.WriteId.{WriteId}
use Rattle.anti_kind.specs.declared.entry.Entry.{Entry}
use Rattle.anti_app.specs.declared.app.App.{App}
use Rattle.anti_app.specs.Objects.{is_store_here}
use Rattle.law_causal.specs.Carried.{carried_at}
use Rattle.law_causal.specs.Settled.{IsSettled, Looked, found_in, region_named}
use Rattle.anti_past.specs.declared.span_keys.SpanKey.{SpanKey}
use Rattle.anti_past.specs.inner.Found.{finds}
use Rattle.anti_past.specs.inner.Keys.{is_in, key_of}
use Rattle.anti_past.specs.inner.Looking.{all_pass, passes}
use Rattle.anti_past.proofs.Held.{all_has, has_all}
use Rattle.anti_past.proofs.InSpan.{earlier_from, earlier_in}

-- ---- lists

-- what is so of an item of a front is so of an item at a place before its end, and the other way round
module _ {X : Type 0} (p : X → Bool) where
  any_at : (xs : List X) (j : ℕ) → list_any p (take j xs) ≡ true → (i : ℕ) × (x : X) × (i < j) × (slice_get xs i ≡ Some x) × (p x ≡ true)
  any_at [] zero has = absurd (cc)
  any_at [] (suc j) has = absurd (cc)
  any_at (x ∷ xs) zero has = absurd (cc)
  any_at (x ∷ xs) (suc j) has =
      elim (or_cases (p x) (list_any p (take j xs)) has) [
        | inl here ↦ (0, x, omega arith, refl, here)
        | inr later ↦ let (i, y, early, there, holds) = any_at xs j later in (suc i, y, omega arith, there, holds)
      ]

  at_any : (xs : List X) (j i : ℕ) (x : X) → i < j → slice_get xs i ≡ Some x → p x ≡ true → list_any p (take j xs) ≡ true
  at_any [] j i x early there holds = absurd (cc)
  at_any (y ∷ ys) zero i x early there holds = absurd (omega arith)
  at_any (y ∷ ys) (suc j) zero x early there holds = let same : y ≡ x = cc in or_left (p y) (list_any p (take j ys)) (ap p same ∙ holds)
  at_any (y ∷ ys) (suc j) (suc i) x early there holds = or_right (p y) (list_any p (take j ys)) (at_any ys j i x (omega arith) there holds)

-- ---- tests

passing : (here found : Bool) → (not here || found) ≡ true → here ≡ true → found ≡ true
passing true found all on = all
passing false found all on = absurd (cc)

pass : (here found : Bool) → (here ≡ true → found ≡ true) → (not here || found) ≡ true
pass true found each = each refl
pass false found each = refl

-- ---- a read, by what the looks of its span found before it

module _ (trace : List Entry) (j : ℕ) (e : Entry) (q : SpanKey) (is : key_of e ≡ Some q) (w : WriteId) where
  looked : list_any (finds q w) (take j trace) ≡ true → Looked trace j e w
  looked found =
      let (i, a, early, there, holds) = any_at (finds q w) trace j found in
      let its = and_parts (is_in q a) (has_id w (found_in a.call a.reply)) holds in
      record { place = i; entry = a; there = there; earlier = earlier_from q i a j e is its.0 early; found = its.1 }

  was_looked : Looked trace j e w → list_any (finds q w) (take j trace) ≡ true
  was_looked l =
      at_any (finds q w) trace j l.place l.entry l.earlier.before l.there
      (and_from (is_in q l.entry) (has_id w (found_in l.entry.call l.entry.reply)) (earlier_in q l.place l.entry j e is l.earlier) l.found)

module _ (app : App) (trace : List Entry) (j : ℕ) (e : Entry) (q : SpanKey) (is : key_of e ≡ Some q)
    (found : WriteId → Bool) (are : (w : WriteId) → found w ≡ list_any (finds q w) (take j trace)) where
  abbrev here : WriteId → Bool
  here w = is_store_here app (region_named e.call) w.store

  -- The tests over all that is carried pass just where the read is settled.
  pub settled_is : (all_pass app (region_named e.call) found (carried_at app trace j e) ≡ true) ↔ IsSettled app trace j e
  settled_is = (
    λ all w has at. looked trace j e q is w
        (sym (are w) ∙ passing (here w) (found w) (all_has (passes app (region_named e.call) found) (carried_at app trace j e) all w has) at),
    λ settled. has_all (passes app (region_named e.call) found) (carried_at app trace j e)
        (λ w has. pass (here w) (found w) (λ at. are w ∙ was_looked trace j e q is w (settled w has at))),
  )
