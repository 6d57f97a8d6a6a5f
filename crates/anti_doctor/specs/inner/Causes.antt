-- What is causally before the reads of a trace, as a program keeps it: of each read the set of the numbers of the writes.
use Rattle.std.specs.Prelude.{ℕ, ◌≡◌, ◌↔◌, Bool, true, false, List, Option, None, Some, length, slice_get}
use Rattle.std.specs.Option.{option_and_then, option_map_or}
use Rattle.anti_kind.specs.declared.entry.Entry.{Entry}
use Rattle.law_causal.specs.Words as words
use Rattle.law_causal.specs.Causal.{Before}
use Rattle.law_causal.specs.Reads.{is_at}
use Rattle.law_serial.specs.Order.{writes_at}
use Rattle.anti_order.specs.inner.NumberSets.{has, room, room_for}
use Rattle.anti_order.specs.inner.Writes.{number_at, write_places}

-- The set has room for all writes of the trace, and has the number of each that is causally before the entry at a place, and of no other.
pub record TellsBefore (trace : List Entry) (j : ℕ) (set : List ℕ) : Type 0 where
  pub room : room set ≡ room_for (length (write_places trace))
  pub before : (i : ℕ) → writes_at trace i ≡ true → has set (number_at trace i) ≡ true ↔ Before trace i j

-- what is kept of an entry: of a read such a set, of another nothing
abbrev pub IsKeptOf : List Entry → ℕ → Option (List ℕ) → Type 0
IsKeptOf trace j None = is_at (λ e. words.reads e.call) trace j ≡ false
IsKeptOf trace j (Some set) = TellsBefore trace j set

-- the sets of the reads of a trace, by the places of the entries
pub record AreCausesOf (trace : List Entry) (sets : List (Option (List ℕ))) : Type 0 where
  pub count : length sets ≡ length trace
  pub each : (j : ℕ) (kept : Option (List ℕ)) → slice_get sets j ≡ Some kept → IsKeptOf trace j kept

-- whether the write at place i is in the set of the read at place r
abbrev pub past_in : List (Option (List ℕ)) → List Entry → ℕ → ℕ → Bool
past_in sets trace r i = option_map_or (λ set. has set (number_at trace i)) (option_and_then (λ kept. kept) (slice_get sets r)) false
