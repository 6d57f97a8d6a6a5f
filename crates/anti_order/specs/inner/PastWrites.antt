-- The writes of the past of a read, as a program gathers their numbers.
use Rattle.std.specs.Prelude.{ℕ, ◌≡◌, ◌<◌, ◌==◌, ◌||◌, Bool, false, List, [], Option, Some, None, slice_get}
use Rattle.std.specs.List.{list_any}
use Rattle.std.specs.Option.{option_and_then, option_map_or}
use Rattle.anti_ids.specs.declared.id.WriteId.{WriteId}
use Rattle.anti_past.specs.declared.before_reads.Past.{Past}
use Rattle.anti_order.specs.declared.writes.Writes.{Writes}
use Rattle.anti_order.specs.inner.NumberSets.{has, room}
use Rattle.anti_order.specs.inner.Writes.{number_in}

-- whether the number that was found is n
abbrev pub is_here : Option ℕ → ℕ → Bool
is_here None n = false
is_here (Some m) n = m == n

-- whether the write of an id has the number n
abbrev pub is_numbered : Writes → ℕ → WriteId → Bool
is_numbered writes n w = is_here (number_in writes w) n

-- to some numbers those of the writes of these ids were added
pub record AddsNumbers (writes : Writes) (ids : List WriteId) (old new : List ℕ) : Type 0 where
  pub added : (n : ℕ) → n < room old → has new n ≡ (has old n || list_any (is_numbered writes n) ids)
  pub room : room new ≡ room old

-- what is told of the read at a place, and what is carried into it
abbrev pub past_in : List (Option Past) → ℕ → Option Past
past_in pasts r = option_and_then (λ past. past) (slice_get pasts r)

abbrev pub carried_in : List (Option Past) → ℕ → List WriteId
carried_in pasts r = option_map_or (λ past. past.carried) (past_in pasts r) []
