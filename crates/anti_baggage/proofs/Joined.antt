-- Texts with a separator between each two.
use Rattle.std.proofs.Common.{◌≡◌, ℕ, ◌<◌, ◌++◌, List, [], ◌∷◌, length, sym, ap, subst, ◌∙◌, arith}
use Rattle.std.specs.List.{join_by, flat_map}
use Rattle.std.proofs.lemmas.Grind.{flat_map-append}
use Rattle.std.proofs.lemmas.List.{append-nil, append_assoc}

module _ {X : Type 0} (f : X → List ℕ) (sep : List ℕ) where
  -- one more behind others
  join_more : (x : X) (xs : List X) (y : X) → join_by f sep ((x ∷ xs) ++ y ∷ []) ≡ join_by f sep (x ∷ xs) ++ sep ++ f y
  join_more x xs y =
      let behind : flat_map (λ z. sep ++ f z) (xs ++ y ∷ []) ≡ flat_map (λ z. sep ++ f z) xs ++ (sep ++ f y) =
      flat_map-append (λ z. sep ++ f z) xs (y ∷ []) ∙ ap (λ (t : List ℕ). flat_map (λ z. sep ++ f z) xs ++ t) (append-nil (sep ++ f y)) in
      ap (λ (t : List ℕ). f x ++ t) behind ∙ sym (append_assoc (f x) (flat_map (λ z. sep ++ f z) xs) (sep ++ f y)) ∙ sym (append_assoc (join_by f sep (x ∷ xs)) sep (f y))

  pub next_joined : (xs : List X) (y : X) → 0 < length xs → join_by f sep (xs ++ y ∷ []) ≡ join_by f sep xs ++ sep ++ f y
  next_joined [] y some = absurd (omega (arith, some))
  next_joined (x ∷ xs) y some = join_more x xs y

  pub first_joined : (xs : List X) (y : X) → xs ≡ [] → join_by f sep (xs ++ y ∷ []) ≡ join_by f sep xs ++ f y
  first_joined xs y none = subst (λ (ys : List X). join_by f sep (ys ++ y ∷ []) ≡ join_by f sep ys ++ f y) (sym none) (append-nil (f y))

-- a text that goes on
pub goes_on : (front so_far text more next : List ℕ) → text ≡ front ++ so_far → next ≡ so_far ++ more → text ++ more ≡ front ++ next
goes_on front so_far text more next t n = ap (λ (x : List ℕ). x ++ more) t ∙ append_assoc front so_far more ∙ ap (λ (x : List ℕ). front ++ x) (sym n)

-- and one that goes on behind a separator
pub goes_on_behind : (front so_far text sep more next : List ℕ) → text ≡ (front ++ so_far) ++ sep → next ≡ so_far ++ sep ++ more → text ++ more ≡ front ++ next
goes_on_behind front so_far text sep more next t n = goes_on front (so_far ++ sep) text more next (t ∙ append_assoc front so_far sep) n
