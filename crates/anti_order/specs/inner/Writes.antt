-- The writes of a trace, as a program knows them.
use Rattle.std.specs.Prelude.{ℕ, ◌≡◌, ◌+◌, ◌-◌, ◌^◌, ◌<◌, ◌==◌, ◌&&◌, ◌++◌, nat_lt, true, cond, List, [], ◌∷◌, Option, None, Some, bytes_eq, length, map, slice_get}
use Rattle.std.specs.Global.{Vec}
use Rattle.std.specs.List.{filter, range_with_len}
use Rattle.std.specs.Option.{option_map_or}
use Rattle.anti_ids.specs.Ids.{has_id}
use Rattle.anti_ids.specs.declared.id.WriteId.{WriteId}
use Rattle.anti_kind.specs.declared.entry.Entry.{Entry}
use Rattle.anti_past.specs.Losses.{mark_of}
use Rattle.law_causal.specs.Words.{wrote}
use Rattle.law_causal.specs.Reads.{is_at, places}
use Rattle.law_serial.specs.Order.{is_some_id, writes_at}
use Rattle.anti_order.specs.Answers.{AreMarksOf}
use Rattle.anti_order.specs.declared.writes.Gathered.{Gathered}
use Rattle.anti_order.specs.declared.writes.KeyAndNumber.{KeyAndNumber}
use Rattle.anti_order.specs.declared.writes.Writes.{Writes}

-- their places, in the order of the trace
abbrev pub write_places : List Entry → List ℕ
write_places trace = filter (writes_at trace) (places trace)

-- how many of them stand before a place: of a write there it is the number, counted from 0
abbrev pub number_at : List Entry → ℕ → ℕ
number_at trace i = length (filter (writes_at trace) (range_with_len 0 i))

-- the write of an id stands at a place
abbrev pub IsWriteAt : WriteId → List Entry → ℕ → Type 0
IsWriteAt w trace i = is_at (λ a. has_id w (wrote a)) trace i ≡ true

-- ---- by their stores

-- the writes on a store; none where there is no such store
abbrev pub rows_on : List (Vec KeyAndNumber) → ℕ → List KeyAndNumber
rows_on stores store = option_map_or (λ rows. rows.items) (slice_get stores store) []

-- the number of a write, where its key is this one
abbrev pub number_under : List ℕ → Option KeyAndNumber → Option ℕ
number_under key None = None
number_under key (Some row) = cond (bytes_eq row.key key) (Some row.number) None

-- the number of the write with an id, among those on its store, which have the versions from 1 on
abbrev pub number_among : List KeyAndNumber → WriteId → Option ℕ
number_among rows w = cond (w.version == 0) None (number_under w.key (slice_get rows (w.version - 1)))

abbrev pub number_in : Writes → WriteId → Option ℕ
number_in writes w = number_among (rows_on writes.stores.items w.store) w

-- their marks, in the order of the trace, and the number of each there by its id
pub record AreWritesOf (trace : List Entry) (writes : Writes) : Type 0 where
  pub marks : AreMarksOf trace (write_places trace) writes.marks.items
  pub few : length writes.marks.items < 2 ^ 32
  pub found : (w : WriteId) (n : ℕ) → number_in writes w ≡ Some n → (i : ℕ) × IsWriteAt w trace i × (number_at trace i ≡ n)
  pub known : (w : WriteId) (i : ℕ) → IsWriteAt w trace i → number_in writes w ≡ Some (number_at trace i)

-- the writes with these ids, of which each has this number
abbrev pub rows_for : ℕ → List WriteId → List KeyAndNumber
rows_for number ids = map (λ w. record { key = w.key; number = number }) ids

-- to the writes that of the entry e was added, where it is one
pub record AddsWrite (e : Entry) (old new : Gathered) : Type 0 where
  pub marks : new.marks.items ≡ old.marks.items ++ cond (is_some_id (wrote e)) (mark_of e ∷ []) []
  pub count : length new.stores.items ≡ length old.stores.items
  pub rows : (s : ℕ) → rows_on new.stores.items s
      ≡ rows_on old.stores.items s ++ cond ((e.object == s) && nat_lt s (length old.stores.items)) (rows_for (length old.marks.items) (wrote e)) []
