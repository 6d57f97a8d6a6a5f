-- How often a number stands in a list.
use Rattle.std.proofs.Common.{◌≡◌, ◌≢◌, ◌==◌, ℕ, ◌+◌, ◌<◌, List, [], ◌∷◌, ◌++◌, refl, ⊎_elim, cond, eq-eqb, ne_eqb, arith}
use Rattle.std.proofs.lemmas.Bool.{cases_eq}
use Rattle.anti_turn.specs.Lists.{times}

pub times-append : (n : ℕ) (xs ys : List ℕ) → times n (xs ++ ys) ≡ times n xs + times n ys
times-append n [] ys = omega arith
times-append n (x ∷ xs) ys = let rest = times-append n xs ys in omega arith

pub times_itself : (n : ℕ) → times n (n ∷ []) ≡ 1
times_itself n = let one : ℕ = 1 in let none : ℕ = 0 in let here : cond (n == n) one none ≡ one = rw (eq-eqb n n refl) refl in omega arith

pub times_other : (m n : ℕ) → m ≢ n → times n (m ∷ []) ≡ 0
times_other m n apart = let one : ℕ = 1 in let none : ℕ = 0 in let here : cond (m == n) one none ≡ none = rw (ne_eqb m n apart) refl in omega arith

-- a number that stands in a list of one is that one
pub times_is : (m n : ℕ) → 0 < times n (m ∷ []) → m ≡ n
times_is m n stands = ⊎_elim (λ (same : m ≡ n). same) (λ (apart : m ≢ n). absurd (let none = times_other m n apart in omega arith)) (cases_eq m n)
