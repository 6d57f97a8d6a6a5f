-- An item of a list that was put in place of another.
use Rattle.std.proofs.Common.{◌≡◌, ℕ, zero, suc, ◌<◌, List, [], ◌∷◌, length, get_or, Some, refl, sym, ap, ◌∙◌, arith, inl, inr}
use Rattle.std.specs.Prelude.{slice_get, slice_set}
use Rattle.std.proofs.lemmas.Bool.{cases_lt}
use Rattle.std.proofs.lemmas.List.{length-set, get_or-set_same, get_or-set_other}
use Rattle.std.proofs.lemmas.Option.{slice_get_past, slice_get-get_or}

-- an item that was found at its place
pub found_at : {X : Type 0} (xs : List X) (i : ℕ) (x : X) → i < length xs → x ≡ get_or xs i x → slice_get xs i ≡ Some x
found_at xs i x within is = slice_get-get_or xs i x within ∙ ap Some (sym is)

-- there is an item at each place
pub item_at : {X : Type 0} (xs : List X) (i : ℕ) → i < length xs → (x : X) × (slice_get xs i ≡ Some x)
item_at [] i low = absurd (omega arith)
item_at (x ∷ xs) zero low = (x, refl)
item_at (x ∷ xs) (suc i) low = item_at xs i (omega arith)

module _ {X : Type 0} (xs : List X) (i : ℕ) (y : X) where
  pub set_here : i < length xs → slice_get (slice_set xs i y) i ≡ Some y
  set_here within =
      slice_get-get_or (slice_set xs i y) i y (let count : length (slice_set xs i y) ≡ length xs = length-set xs i y in omega arith)
      ∙ ap Some (get_or-set_same xs i y y within)

  pub set_other : (k : ℕ) → (i ≡ k → ⊥) → slice_get (slice_set xs i y) k ≡ slice_get xs k
  set_other k other =
      let count : length (slice_set xs i y) ≡ length xs = length-set xs i y in
      elim (cases_lt k (length xs)) as (λ _. slice_get (slice_set xs i y) k ≡ slice_get xs k) [
        | inl low ↦
            slice_get-get_or (slice_set xs i y) k y (omega arith)
            ∙ ap Some (get_or-set_other xs i k y y (λ same. other (sym same)))
            ∙ sym (slice_get-get_or xs k y low)
        | inr past ↦ slice_get_past (slice_set xs i y) k (omega arith) ∙ sym (slice_get_past xs k past)
      ]
