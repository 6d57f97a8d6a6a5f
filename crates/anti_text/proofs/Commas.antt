-- Texts with a mark behind each of them, and between each two.
use Rattle.std.proofs.Common.{◌≡◌, ℕ, List, [], ◌∷◌, ◌++◌, sym, ap, ◌∙◌}
use Rattle.std.specs.List.{join_by, flat_map}
use Rattle.std.proofs.lemmas.List.{append-nil, append_assoc}

module _ {X : Type 0} (f : X → List ℕ) (sep : List ℕ) where
  behind_each : (x : X) (xs : List X) → flat_map (λ z. f z ++ sep) (x ∷ xs) ≡ join_by f sep (x ∷ xs) ++ sep
  behind_each x [] = append-nil (f x ++ sep) ∙ ap (λ (t : List ℕ). t ++ sep) (sym (append-nil (f x)))
  behind_each x (y ∷ ys) =
      let rest = flat_map (λ z. sep ++ f z) ys in
      let later = join_by f sep (y ∷ ys) in
      ap (λ (t : List ℕ). (f x ++ sep) ++ t) (behind_each y ys)
      ∙ sym (ap (λ (t : List ℕ). (f x ++ t) ++ sep) (append_assoc sep (f y) rest) ∙ ap (λ (t : List ℕ). t ++ sep) (sym (append_assoc (f x) sep later)) ∙ append_assoc (f x ++ sep) later sep)

  -- behind a head, and behind what stood there
  pub written_behind : (out head : List ℕ) (x : X) (xs : List X)
      → (out ++ head) ++ flat_map (λ z. f z ++ sep) (x ∷ xs) ≡ (out ++ (head ++ join_by f sep (x ∷ xs))) ++ sep
  written_behind out head x xs =
      let joined = join_by f sep (x ∷ xs) in
      ap (λ (t : List ℕ). (out ++ head) ++ t) (behind_each x xs)
      ∙ sym (append_assoc (out ++ head) joined sep)
      ∙ ap (λ (t : List ℕ). t ++ sep) (append_assoc out head joined)
