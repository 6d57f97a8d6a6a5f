-- A value whose entries are the numbers of the seats that added them.
use Rattle.std.specs.Prelude.{ℕ, ◌≤◌, List, ◌++◌, length}
use lib.ListN.{length-append}
use Rattle.std.proofs.Common.{arith}
use Rattle.anti_turn.specs.Lists.{entries_of}
use Rattle.anti_turn.specs.Places.{Place}

-- the entries of a seat, as far as it has seen them
abbrev pub own_entries : Place ℕ ℕ → List ℕ
own_entries seat = entries_of (λ number. number) seat.number seat.seen

-- a list with more behind it is at least as long
pub longer : (xs ys : List ℕ) → length xs ≤ length (xs ++ ys)
longer xs ys = let sum = length-append xs ys in omega arith
