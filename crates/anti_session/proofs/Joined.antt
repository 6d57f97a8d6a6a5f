-- Lists that are joined from what each item of another gives.
use Rattle.std.proofs.Common.{◌≡◌, ◌++◌, List, [], ◌∷◌, flat_map, AllPairs, Contains, refl, ap₂, arith}
use Rattle.anti_kind.proofs.Finding.{joined_from}
use Rattle.law_serial.proofs.Cuts.{in_front, in_rest, pair_first, pairs_append, pairs_rest}

-- a list that contains nothing
pub nothing_in : {X : Type 0} (xs : List X) → ((x : X) → Contains xs x → ⊥) → xs ≡ []
nothing_in [] none = refl
nothing_in (x ∷ xs) none = absurd (none x (in_front x xs))

-- the same of each item is the same of all
pub joined_same : {X Y : Type 0} (f g : X → List Y) (xs : List X) → ((x : X) → Contains xs x → f x ≡ g x) → flat_map f xs ≡ flat_map g xs
joined_same f g [] same = refl
joined_same {X} {Y} f g (x ∷ xs) same =
    ap₂ (λ (one more : List Y). one ++ more) (same x (in_front x xs)) (joined_same f g xs (λ y among. same y (in_rest x xs y among)))

module _ {X Y : Type 0} (R : X → X → Type 0) (S : Y → Y → Type 0) (f : X → List Y) where
  -- The pairs of what is joined are those of what one item gives, and those of what two of a pair give.
  pub pairs_joined : (xs : List X) → AllPairs R xs → ((x : X) → Contains xs x → AllPairs S (f x))
      → ((x y : X) → Contains xs x → Contains xs y → R x y → (m n : Y) → Contains (f x) m → Contains (f y) n → S m n)
      → AllPairs S (flat_map f xs)
  pairs_joined [] pairs within across = λ i j d low short. absurd (omega (arith, short))
  pairs_joined (x ∷ xs) pairs within across =
      pairs_append S (f x) (flat_map f xs) (within x (in_front x xs)) (pairs_joined xs (pairs_rest R x xs pairs)
      (λ y among. within y (in_rest x xs y among))
      (λ y z in_y in_z. across y z (in_rest x xs y in_y) (in_rest x xs z in_z)))
      (λ m n in_m in_n.
      let from = joined_from f xs n in_n in
      let among : Contains xs from.1 = (from.0, from.2, from.3) in
      across x from.1 (in_front x xs) (in_rest x xs from.1 among) (pair_first R x xs pairs from.1 among) m n in_m from.4)
