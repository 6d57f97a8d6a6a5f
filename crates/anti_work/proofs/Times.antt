-- How often a number stands among those that are read off the items of a list.
use Rattle.std.proofs.Common.{◌≡◌, ◌≢◌, ℕ, zero, suc, ◌<◌, ◌≤◌, List, [], ◌∷◌, length, map, get_or, refl, sym, ap, subst, ⊎_elim, arith}
use Rattle.std.proofs.lemmas.Bool.{cases_eq}
use Rattle.anti_turn.specs.Lists.{times}
use Rattle.anti_turn.proofs.Times.{times_itself, times_other}

module _ {X : Type 0} (f : X → ℕ) (d : X) where
  -- a number that is counted is that of an item
  pub counted_somewhere : (n : ℕ) (xs : List X) → 0 < times n (map f xs) → (k : ℕ) × (k < length xs) × (f (get_or xs k d) ≡ n)
  counted_somewhere n [] stands = absurd (omega arith)
  counted_somewhere n (x ∷ xs) stands = ⊎_elim (λ (same : f x ≡ n). (0, omega arith, same))
      (λ (apart : f x ≢ n). let none = times_other (f x) n apart in let rest = counted_somewhere n xs (omega arith) in (suc rest.0, omega arith, rest.2))
      (cases_eq (f x) n)

  -- the number of each item is counted
  pub counted_here : (xs : List X) (k : ℕ) → k < length xs → 0 < times (f (get_or xs k d)) (map f xs)
  counted_here [] k within = absurd (omega arith)
  counted_here (x ∷ xs) zero within = let one = times_itself (f x) in omega arith
  counted_here (x ∷ xs) (suc k) within = let rest = counted_here xs k (omega arith) in omega arith

  twice : (x : X) (xs : List X) (k : ℕ) → k < length xs → ((n : ℕ) → times n (f x ∷ map f xs) ≤ 1) → f x ≡ f (get_or xs k d) → ⊥
  twice x xs k within once same =
      let first = times_itself (f x) in
      let most = once (f x) in
      let later : 0 < times (f x) (map f xs) = subst (λ (n : ℕ). 0 < times n (map f xs)) (sym same) (counted_here xs k within) in
      omega arith

  -- where each number is counted once, two items of one number are one
  pub counted_once : (xs : List X) (j k : ℕ) → j < length xs → k < length xs → ((n : ℕ) → times n (map f xs) ≤ 1) → f (get_or xs j d) ≡ f (get_or xs k d) → j ≡ k
  counted_once [] j k within also once same = absurd (omega arith)
  counted_once (x ∷ xs) zero zero within also once same = refl
  counted_once (x ∷ xs) zero (suc k) within also once same = absurd (twice x xs k (omega arith) once same)
  counted_once (x ∷ xs) (suc j) zero within also once same = absurd (twice x xs j (omega arith) once (sym same))
  counted_once (x ∷ xs) (suc j) (suc k) within also once same =
      ap suc (counted_once xs j k (omega arith) (omega arith) (λ n. let all = once n in omega arith) same)
