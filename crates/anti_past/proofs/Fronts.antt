-- The front of a legal trace, up to a place, and a walk that goes past the entry there.
use Rattle.std.proofs.Common.{◌≡◌, ℕ, zero, suc, ◌+◌, ◌<◌, ◌||◌, ◌++◌, Bool, List, [], ◌∷◌, length, take, drop, refl, sym, ap, ◌∙◌, subst, arith}
use Rattle.std.specs.Prelude.{Some, slice_get}
use Rattle.std.specs.List.{list_any}
use Rattle.std.proofs.lemmas.List.{take-append-drop, take_more}
use Rattle.std.proofs.lemmas.List.Folds.{list_any_more}
use Rattle.std.proofs.lemmas.Option.{get_or_from_slice_get, slice_get_within}
use Rattle.anti_kind.specs.declared.entry.Entry.{Entry}
use Rattle.anti_app.specs.declared.app.App.{App}
use Rattle.anti_trace.specs.Legal.{IsLegalTrace}
use Rattle.anti_trace.specs.declared.processes.AtObject.{AtObject}
use Rattle.anti_trace.specs.inner.Living.{AreProcessesOf, IsNextOf}
use Rattle.anti_trace.proofs.Prefix.{legal_front}
use Rattle.law_causal.proofs.Lists.{cut_at}

pub legal_before : (app : App) (trace : List Entry) (i : ℕ) → IsLegalTrace app trace → IsLegalTrace app (take i trace)
legal_before app trace i legal =
    legal_front app (take i trace) (drop i trace) (subst (IsLegalTrace app) (sym (take-append-drop i trace)) legal)

-- ---- items

pub item_at : {X : Type 0} (xs : List X) (k : ℕ) → k < length xs → (x : X) × (slice_get xs k ≡ Some x)
item_at [] k low = absurd (omega arith)
item_at (x ∷ xs) zero low = (x, refl)
item_at (x ∷ xs) (suc k) low = item_at xs k (omega arith)

module _ {X : Type 0} (xs : List X) (k : ℕ) (x : X) (at : slice_get xs k ≡ Some x) where
  pub taken : take (k + 1) xs ≡ take k xs ++ x ∷ []
  taken = take_more xs k x (slice_get_within xs k x at) ∙ ap (λ (y : X). take k xs ++ y ∷ []) (get_or_from_slice_get xs k x x at)

  pub any_more : (p : X → Bool) → list_any p (take (k + 1) xs) ≡ (list_any p (take k xs) || p x)
  any_more p =
      list_any_more p xs k x (slice_get_within xs k x at)
      ∙ ap (λ (y : X). list_any p (take k xs) || p y) (get_or_from_slice_get xs k x x at)

-- ---- processes that go past an entry

module _ (app : App) (trace : List Entry) (legal : IsLegalTrace app trace) (k : ℕ) (e : Entry) (at : slice_get trace k ≡ Some e)
    (all : List AtObject) (are : AreProcessesOf app all (take k trace)) where
  cut : IsLegalTrace app (take k trace ++ e ∷ drop (suc k) trace)
  cut = subst (IsLegalTrace app) (cut_at trace k e at) legal

  -- the entry is the next one
  pub next_of : IsNextOf app all e
  next_of = record { before = take k trace; after = drop (suc k) trace; legal = cut; are = are }

  -- and behind it they stand for one entry more
  pub followed : (new : List AtObject)
      → ((before after : List Entry) → IsLegalTrace app (before ++ e ∷ after) → AreProcessesOf app all before → AreProcessesOf app new (before ++ e ∷ []))
      → AreProcessesOf app new (take (k + 1) trace)
  followed new follows =
      subst (AreProcessesOf app new) (sym (taken trace k e at)) (follows (take k trace) (drop (suc k) trace) cut are)
