-- Numbers that are the same, or are not.
use Rattle.std.proofs.Common.{◌≡◌, ℕ, ◌⊎◌, inl, inr, Bool, true, false, nat_eq, refl, sym}
use borrow.Author.Tests.{eqb-true, eqb-false}

pub decide : (a b : ℕ) → (a ≡ b) ⊎ (a ≡ b → ⊥)
decide a b = by_test (nat_eq a b) refl
  where
    by_test : (t : Bool) → t ≡ nat_eq a b → (a ≡ b) ⊎ (a ≡ b → ⊥)
    by_test true e = inl (eqb-true a b (sym e))
    by_test false e = inr (λ same. eqb-false a b (sym e) same)
