-- What a history of a store wrote, which parts of it were shipped where, and what a region therefore shows.
use Rattle.std.specs.Prelude.{ℕ, ◌+◌, ◌/◌, max, Bool, false, cond, not, ◌&&◌, List, [], ◌∷◌, length, ◌==◌, bytes_eq, Option, find, flat_map, unwrap_or}
use Rattle.std.specs.List.{list_any, list_all, range_with_len, take_while}
use Rattle.anti_ids.specs.Ascii.{hash}
use Rattle.anti_ids.specs.declared.id.WriteId.{WriteId}
use Rattle.anti_ids.specs.declared.limits.TheConstants.{PART_BYTES}
use Rattle.anti_kind.specs.declared.call.Call.{Call}
use Rattle.anti_kind.specs.declared.call.Call.TheVariants.{Write, Ship}
use Rattle.anti_kind.specs.declared.call.Reply.{Reply}
use Rattle.anti_kind.specs.declared.call.Reply.TheVariants.{Written}
use Rattle.anti_kind.specs.declared.entry.Entry.{Entry}
use Rattle.anti_kind.specs.declared.row.Row.{Row}
use Rattle.anti_kind.specs.declared.store_kind.StoreKind.{StoreKind}
use Rattle.anti_kind.specs.Kinds.{facts_of}

-- the lineage that is kept beside a write: that which its reply tells, or else that which was handed in
abbrev pub stored : Call → Reply → List WriteId
stored (Write key value lineage) (Written written version over) = unwrap_or over lineage
stored _ reply = []

-- the row of a value that the reply to its write says was written, with what is kept beside it
abbrev pub written : List ℕ → List WriteId → Reply → List Row
written value kept (Written key version over) = record { key = key; version = version; value = value; lineage = kept } ∷ []
written value kept _ = []

-- the row that a call with its reply wrote, none for most calls
abbrev pub wrote : Call → Reply → List Row
wrote (Write key value lineage) reply = written value (stored (Write key value lineage) reply) reply
wrote _ reply = []

-- what a history wrote, in its order
abbrev pub rows : List Entry → List Row
rows h = flat_map (λ e. wrote e.call e.reply) h

-- the row of a version
abbrev pub row_of : List Entry → ℕ → Option Row
row_of h v = find (λ r. r.version == v) (rows h)

-- whether a call ships that part of that version to the region g
abbrev pub is_ship : ℕ → ℕ → ℕ → Call → Bool
is_ship g v p (Ship region version part) = (region == g) && ((version == v) && (part == p))
is_ship g v p _ = false

abbrev pub is_shipped : List Entry → ℕ → ℕ → ℕ → Bool
is_shipped h g v p = list_any (λ e. is_ship g v p e.call) h

-- how many parts a value has: one, but in a blob one for each `PART_BYTES` bytes begun, and one where there is none
abbrev pub parts_of : StoreKind → List ℕ → ℕ
parts_of kind value = cond (facts_of kind).parted (max 1 ((length value + 63) / PART_BYTES)) 1

-- the parts of a row, counted from 1
abbrev pub parts : StoreKind → Row → List ℕ
parts kind r = range_with_len 1 (parts_of kind r.value)

-- whether all parts of a row were shipped to g
abbrev pub is_whole : StoreKind → List Entry → ℕ → Row → Bool
is_whole kind h g r = list_all (λ p. is_shipped h g r.version p) (parts kind r)

-- the greatest version of the key k among the rows that pass the test, 0 where there is none
abbrev pub greatest : (Row → Bool) → List ℕ → List Row → ℕ
greatest test k [] = 0
greatest test k (r ∷ rest) = max (cond (bytes_eq r.key k && test r) r.version 0) (greatest test k rest)

-- What a region shows for a key: the greatest version of it that is whole there, or 0.
abbrev pub shows_of : StoreKind → List Entry → ℕ → List ℕ → ℕ
shows_of kind h g k = greatest (is_whole kind h g) k (rows h)

-- A write to a queue or a topic names its channel; the key of the nth write to the channel c is c#n.
abbrev pub channel_of : List ℕ → List ℕ
channel_of key = take_while (λ b. not (b == hash)) key

-- the rows of a channel, in their order
abbrev pub is_in : List ℕ → Row → Bool
is_in channel r = bytes_eq (channel_of r.key) channel
