-- What a source tells of the bytes that are left, what a sink tells of those that were written, and their counts of faults.
use Rattle.std.specs.Prelude.{ℕ, ◌≡◌, ◌≤◌, List, [], ◌++◌, Option, IfSome, length, take, drop}
use Rattle.std.specs.Option.{option_map}

-- the first n bytes of the buffer are the first n of what was left
abbrev pub IsFrontGiven : ℕ → List ℕ → List ℕ → Type 0
IsFrontGiven n buf left = (n ≤ length left) × (take n buf ≡ take n left)

-- what is left behind the first n bytes, where it is told
abbrev pub after_front : ℕ → Option (List ℕ) → Option (List ℕ)
after_front n left = option_map (λ bytes. drop n bytes) left

-- nothing is left
abbrev pub IsEnd : Option (List ℕ) → Type 0
IsEnd left = IfSome left (λ bytes. bytes ≡ [])

-- what was written, with these bytes behind it, where it is told
abbrev pub with_bytes : List ℕ → Option (List ℕ) → Option (List ℕ)
with_bytes bytes written = option_map (λ before. before ++ bytes) written

-- what was written, with the first n bytes of the piece behind it, where it is told
abbrev pub with_front : ℕ → List ℕ → Option (List ℕ) → Option (List ℕ)
with_front n piece written = with_bytes (take n piece) written

-- some front of the bytes was written, perhaps all of them and perhaps none
abbrev pub AddsFront : List ℕ → Option (List ℕ) → Option (List ℕ) → Type 0
AddsFront bytes before now = (n : ℕ) × (n ≤ length bytes) × (now ≡ with_front n bytes before)

-- some front of what was left was taken, of at most so many bytes
abbrev pub TakesAtMost : ℕ → Option (List ℕ) → Option (List ℕ) → Type 0
TakesAtMost most before now = (n : ℕ) × (n ≤ most) × (now ≡ after_front n before)
