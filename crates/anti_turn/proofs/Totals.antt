-- Sums over all views, and what a change of one view leaves.
use Rattle.std.proofs.Common.{◌≡◌, ◌≢◌, ℕ, zero, suc, ◌+◌, ◌≤◌, List, [], ◌∷◌, ◌++◌, set, sym, refl, ap, subst, ⊎_elim, arith}
use mathlib.Core.Option.{some, some-injective, some-ne-none}
use lib.ListN.{get_elem?}
use Rattle.atomic_table.proofs.Lists.{at_set}
use Rattle.anti_turn.specs.inner.Views.{total}

module _ {V : Type 0} where
  pub total_set : (f : V → ℕ) (vs : List V) (id : ℕ) (v w : V) → get_elem? vs id ≡ some v → total f (set vs id w) + f v ≡ total f vs + f w
  total_set f [] id v w at = absurd (some-ne-none v (sym at))
  total_set f (x ∷ xs) zero v w at = let is : f x ≡ f v = ap f (some-injective x v at) in omega arith
  total_set f (x ∷ xs) (suc id) v w at = let rest = total_set f xs id v w at in omega arith

  pub total_same : (f : V → ℕ) (vs : List V) (id : ℕ) (v w : V) → get_elem? vs id ≡ some v → f w ≡ f v → total f (set vs id w) ≡ total f vs
  total_same f vs id v w at same = let changed = total_set f vs id v w at in omega arith

  pub total_snoc : (f : V → ℕ) (vs : List V) (w : V) → total f (vs ++ w ∷ []) ≡ total f vs + f w
  total_snoc f [] w = omega arith
  total_snoc f (x ∷ xs) w = let rest = total_snoc f xs w in omega arith

  pub total_plus : (f g : V → ℕ) (vs : List V) → total (λ v. f v + g v) vs ≡ total f vs + total g vs
  total_plus f g [] = refl
  total_plus f g (x ∷ xs) = let rest = total_plus f g xs in omega arith

  -- a view adds no more than the sum
  pub term_le : (f : V → ℕ) (vs : List V) (id : ℕ) (v : V) → get_elem? vs id ≡ some v → f v ≤ total f vs
  term_le f [] id v at = absurd (some-ne-none v (sym at))
  term_le f (x ∷ xs) zero v at = let is : f x ≡ f v = ap f (some-injective x v at) in omega arith
  term_le f (x ∷ xs) (suc id) v at = let rest = term_le f xs id v at in omega arith

  pub two_le : (f : V → ℕ) (vs : List V) (i j : ℕ) (v w : V) → i ≢ j → get_elem? vs i ≡ some v → get_elem? vs j ≡ some w → f v + f w ≤ total f vs
  two_le f [] i j v w apart at also = absurd (some-ne-none v (sym at))
  two_le f (x ∷ xs) zero zero v w apart at also = absurd (apart refl)
  two_le f (x ∷ xs) zero (suc j) v w apart at also =
      let is : f x ≡ f v = ap f (some-injective x v at) in let rest = term_le f xs j w also in omega arith
  two_le f (x ∷ xs) (suc i) zero v w apart at also =
      let is : f x ≡ f w = ap f (some-injective x w also) in let rest = term_le f xs i v at in omega arith
  two_le f (x ∷ xs) (suc i) (suc j) v w apart at also =
      let rest = two_le f xs i j v w (λ e. apart (ap suc e)) at also in omega arith

  pub total_none : (f : V → ℕ) (vs : List V) → ((k : ℕ) (w : V) → get_elem? vs k ≡ some w → f w ≡ 0) → total f vs ≡ 0
  total_none f [] none = refl
  total_none f (x ∷ xs) none = let here = none 0 x refl in let rest = total_none f xs (λ k w at. none (suc k) w at) in omega arith

  -- where all others add nothing, the sum is what one adds
  pub total_only : (f : V → ℕ) (vs : List V) (id : ℕ) (v : V) → get_elem? vs id ≡ some v
      → ((k : ℕ) (w : V) → get_elem? vs k ≡ some w → k ≢ id → f w ≡ 0) → total f vs ≡ f v
  total_only f [] id v at others = absurd (some-ne-none v (sym at))
  total_only f (x ∷ xs) zero v at others =
      let is : f x ≡ f v = ap f (some-injective x v at) in
      let rest = total_none f xs (λ k w there. others (suc k) w there (λ e. omega arith)) in omega arith
  total_only f (x ∷ xs) (suc id) v at others =
      let here = others 0 x refl (λ e. omega arith) in
      let rest = total_only f xs id v at (λ k w there apart. others (suc k) w there (λ e. apart (omega arith))) in omega arith

  pub at_here : (vs : List V) (id : ℕ) (v w : V) → get_elem? vs id ≡ some v → get_elem? (set vs id w) id ≡ some w
  at_here [] id v w at = absurd (some-ne-none v (sym at))
  at_here (x ∷ xs) zero v w at = refl
  at_here (x ∷ xs) (suc id) v w at = at_here xs id v w at

  -- a fact of each view after a change of one
  pub each_set : (P : ℕ → V → Type 0) (vs : List V) (id : ℕ) (w : V) → P id w
      → ((k : ℕ) (u : V) → k ≢ id → get_elem? vs k ≡ some u → P k u) → (k : ℕ) (u : V) → get_elem? (set vs id w) k ≡ some u → P k u
  each_set P vs id w here others k u at =
      ⊎_elim (λ (t : (k ≡ id) × (w ≡ u)). let Q : ℕ × V → Type 0 = λ z. P z.0 z.1 in let from : ℕ × V = (id, w) in let to : ℕ × V = (k, u) in let e : from ≡ to = λ i. (sym t.0 i, t.1 i) in subst Q e here)
      (λ (t : (k ≢ id) × (get_elem? vs k ≡ some u)). others k u t.0 t.1) (at_set vs id k w u at)
