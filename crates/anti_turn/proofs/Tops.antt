-- The greatest number beside a mark.
use Rattle.std.proofs.Common.{◌≡◌, ◌≢◌, ◌==◌, ℕ, max, cond, List, [], ◌∷◌, ◌++◌, refl, eq-eqb, ne_eqb, arith}
use Rattle.anti_turn.specs.Lists.{top}

pub top_own : (word n : ℕ) → cond (word == word) n 0 ≡ n
top_own word n = rw (eq-eqb word word refl) refl

pub top_other : (word k n : ℕ) → word ≢ k → cond (word == k) n 0 ≡ 0
top_other word k n apart = let none : ℕ = 0 in let is : cond (word == k) n none ≡ none = rw (ne_eqb word k apart) refl in omega arith

-- of two lists of notes it is the greater of the two
pub top-append : (word : ℕ) (xs ys : List (ℕ × ℕ)) → top word (xs ++ ys) ≡ max (top word xs) (top word ys)
top-append word [] ys = omega arith
top-append word (x ∷ xs) ys = let rest = top-append word xs ys in omega arith
