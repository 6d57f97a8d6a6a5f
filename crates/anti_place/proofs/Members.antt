-- What is among some items, by recursion on the list.
use Rattle.std.proofs.Common.{◌≡◌, zero, suc, Bool, true, false, cond, ◌⊎◌, inl, inr, Contains, List, [], ◌∷◌, ◌++◌, map, filter, refl, sym, ap, ◌∙◌, arith}

module _ {T : Type 0} where
  abbrev pub In : T → List T → Type 0
  In x [] = ⊥
  In x (y ∷ ys) = (y ≡ x) ⊎ In x ys

  pub in_left : (x : T) (xs ys : List T) → In x xs → In x (xs ++ ys)
  in_left x [] ys is = absurd is
  in_left x (z ∷ xs) ys (inl here) = inl here
  in_left x (z ∷ xs) ys (inr there) = inr (in_left x xs ys there)

  pub in_right : (x : T) (xs ys : List T) → In x ys → In x (xs ++ ys)
  in_right x [] ys is = is
  in_right x (z ∷ xs) ys is = inr (in_right x xs ys is)

  pub in_either : (x : T) (xs ys : List T) → In x (xs ++ ys) → In x xs ⊎ In x ys
  in_either x [] ys is = inr is
  in_either x (z ∷ xs) ys (inl here) = inl (inl here)
  in_either x (z ∷ xs) ys (inr there) = go (in_either x xs ys there)
    where
      go : In x xs ⊎ In x ys → In x (z ∷ xs) ⊎ In x ys
      go (inl these) = inl (inr these)
      go (inr those) = inr those

  pub passed : (test : T → Bool) (x : T) (xs : List T) → In x (filter test xs) → (test x ≡ true) × In x xs
  passed test x [] is = absurd is
  passed test x (y ∷ xs) is = go (passed test x xs) (test y) refl is
    where
      go : (In x (filter test xs) → (test x ≡ true) × In x xs) → (kept : Bool) → test y ≡ kept → In x (cond kept (y ∷ filter test xs) (filter test xs))
          → (test x ≡ true) × In x (y ∷ xs)
      go rest true e (inl here) = (ap test (sym here) ∙ e, inl here)
      go rest true e (inr there) = let both = rest there in (both.0, inr both.1)
      go rest false e there = let both = rest there in (both.0, inr both.1)

  pub passing : (test : T → Bool) (x : T) (xs : List T) → test x ≡ true → In x xs → In x (filter test xs)
  passing test x [] passes is = absurd is
  passing test x (y ∷ xs) passes is = go (passing test x xs passes) (test y) refl is
    where
      go : (In x xs → In x (filter test xs)) → (kept : Bool) → test y ≡ kept → In x (y ∷ xs) → In x (cond kept (y ∷ filter test xs) (filter test xs))
      go rest true e (inl here) = inl here
      go rest true e (inr there) = inr (rest there)
      go rest false e (inl here) = absurd (let kept : test y ≡ true = ap test here ∙ passes in cc)
      go rest false e (inr there) = rest there

  pub among : (x : T) (xs : List T) → Contains xs x → In x xs
  among x [] (k, within, at) = absurd (let none : ⊥ = omega (arith, within) in none)
  among x (y ∷ xs) (zero, within, at) = inl at
  among x (y ∷ xs) (suc k, within, at) = inr (among x xs (k, omega (arith, within), at))

  pub contained : (x : T) (xs : List T) → In x xs → Contains xs x
  contained x [] is = absurd is
  contained x (y ∷ xs) (inl here) = (zero, omega arith, here)
  contained x (y ∷ xs) (inr there) = let rest = contained x xs there in (suc rest.0, omega (arith, rest.1), rest.2)

module _ {A B : Type 0} (f : A → B) where
  pub mapped : (x : A) (xs : List A) → In x xs → In (f x) (map f xs)
  mapped x [] is = absurd is
  mapped x (y ∷ xs) (inl here) = inl (ap f here)
  mapped x (y ∷ xs) (inr there) = inr (mapped x xs there)

  pub mapped_from : (y : B) (xs : List A) → In y (map f xs) → (x : A) × (f x ≡ y) × In x xs
  mapped_from y [] is = absurd is
  mapped_from y (x ∷ xs) (inl here) = (x, here, inl refl)
  mapped_from y (x ∷ xs) (inr there) = let rest = mapped_from y xs there in (rest.0, rest.1, inr rest.2)
