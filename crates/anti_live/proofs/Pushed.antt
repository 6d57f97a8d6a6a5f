-- One more item at the end of a list.
use Rattle.std.proofs.Common.{◌≡◌, ℕ, zero, suc, ◌+◌, ◌<◌, ◌⊎◌, List, [], ◌∷◌, ◌++◌, length, take, get_or, inl, inr, refl, sym, ap, ◌∙◌, ⊎_elim, arith}
use Rattle.std.specs.Prelude.{Some, slice_get}
use Rattle.std.proofs.lemmas.List.{take_more}
use Rattle.std.proofs.lemmas.Option.{same_Some, slice_get_within}

-- an item of the longer list is this one, or was there before
pub at_push : {X : Type 0} (xs : List X) (y : X) (k : ℕ) (z : X) → slice_get (xs ++ y ∷ []) k ≡ Some z → ((k ≡ length xs) × (y ≡ z)) ⊎ (slice_get xs k ≡ Some z)
at_push [] y zero z at = inl (refl, same_Some y z at)
at_push [] y (suc k) z at = absurd (let low = slice_get_within (y ∷ []) (suc k) z at in omega arith)
at_push (x ∷ xs) y zero z at = inr at
at_push (x ∷ xs) y (suc k) z at =
    ⊎_elim (λ (last : (k ≡ length xs) × (y ≡ z)). inl (ap suc last.0, last.1)) (λ (before : slice_get xs k ≡ Some z). inr before) (at_push xs y k z at)

-- the items up to this one
pub push_next : {X : Type 0} (xs : List X) (i : ℕ) (x : X) → i < length xs → x ≡ get_or xs i x → take i xs ++ x ∷ [] ≡ take (i + 1) xs
push_next xs i x low is = ap (λ y. take i xs ++ y ∷ []) is ∙ sym (take_more xs i x low)
