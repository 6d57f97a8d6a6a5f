-- Fronts of lists, and the entries that have one number.
use Rattle.std.specs.Prelude.{◌≡◌, ℕ, ◌+◌, ◌<◌, max, ◌==◌, if◌then◌else◌, nat_lt, List, [], ◌∷◌, ◌++◌, length, filter, All}

-- how often a number stands in a list
abbrev pub times : ℕ → List ℕ → ℕ
times n [] = 0
times n (m ∷ ms) = (if m == n then 1 else 0) + times n ms

-- the greatest number that is noted beside a mark, or 0
abbrev pub top : ℕ → List (ℕ × ℕ) → ℕ
top word [] = 0
top word (note ∷ notes) = max (if note.0 == word then note.1 else 0) (top word notes)

module _ {E : Type 0} where
  -- the first list is the front of the second
  abbrev pub IsFront : List E → List E → Type 0
  IsFront front whole = (rest : List E) × (whole ≡ front ++ rest)

  abbrev pub longer_of : List E → List E → List E
  longer_of xs ys = if nat_lt (length xs) (length ys) then ys else xs

  -- the entries of a number, in their order
  abbrev pub entries_of : (E → ℕ) → ℕ → List E → List E
  entries_of by n entries = filter (λ e. by e == n) entries

-- The list goes on from another: it begins with that one, and has no further entry of these numbers.
pub record GoesOn {E : Type 0} (by : E → ℕ) (numbers : List ℕ) (old new : List E) : Type 0 where
  pub front : IsFront old new
  pub own : (n : ℕ) → 0 < times n numbers → entries_of by n new ≡ entries_of by n old

-- The list has further entries, all of them of one number.
pub record Adds {E : Type 0} (by : E → ℕ) (number : ℕ) (old new : List E) : Type 0 where
  pub more : List E
  pub whole : new ≡ old ++ more
  pub own : All (λ e. by e ≡ number) more
