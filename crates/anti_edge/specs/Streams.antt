-- What is told of streams that tell nothing, and how much of a source was taken.
use Rattle.std.specs.Prelude.{ℕ, List, Option, None, ◌≡◌}
use Rattle.anti_edge.specs.Outside.{after_front}

-- what is told by one who tells nothing
abbrev pub untold : Option (List ℕ)
untold = None

-- some front of what was left was taken
abbrev pub TakesFront : Option (List ℕ) → Option (List ℕ) → Type 0
TakesFront before now = (n : ℕ) × (now ≡ after_front n before)
