-- What a region of a cached store shows. Its reads go through a cache of so many keys: what is read comes into the cache, and is shown
-- from there, however far behind, until it is refreshed or falls out.
use Rattle.std.specs.Prelude.{ℕ, ◌==◌, Bool, true, false, cond, List, [], ◌∷◌, ◌++◌, take, bytes_eq, nat_lt, Option, None, Some, option_map, unwrap_or, find}
use Rattle.std.specs.Map.{lookup, remove_entry, set_value}
use Rattle.anti_kind.specs.declared.call.Call.{Call}
use Rattle.anti_kind.specs.declared.call.Call.TheVariants.{Read, Again}
use Rattle.anti_kind.specs.declared.entry.Entry.{Entry}
use Rattle.anti_kind.specs.declared.row.Row.{Row}
use Rattle.anti_kind.specs.declared.store_kind.StoreKind.{StoreKind}
use Rattle.anti_kind.specs.declared.store_kind.Sub.{Sub}
use Rattle.anti_kind.specs.Kinds.{facts_of}
use Rattle.anti_kind.specs.Stored.{row_of, shows_of}
use Rattle.anti_kind.specs.Store.{Store}
use Rattle.anti_kind.specs.Objects.{Start, store, inbox}

-- a key that a cache holds, and the version of it that is shown
abbrev pub Pair : Type 0
Pair = List ℕ × ℕ

-- A read of a key that is found brings its pair to the front. One that is not found puts it there with the version that is whole, where
-- there is one, and the cache is cut to its room.
abbrev pub read_by : ℕ → List ℕ → ℕ → Option ℕ → List Pair → List Pair
read_by room k whole (Some version) pairs = (k, version) ∷ remove_entry (bytes_eq k) pairs
read_by room k whole None pairs = cond (whole == 0) pairs (take room ((k, whole) ∷ pairs))

abbrev pub read_through : ℕ → List ℕ → ℕ → List Pair → List Pair
read_through room k whole pairs = read_by room k whole (lookup (bytes_eq k) pairs) pairs

-- what came again sets the version of its key to the one that is whole, where the cache holds the key
abbrev pub refreshed : StoreKind → List Entry → ℕ → Option Row → List Pair → List Pair
refreshed kind h g None pairs = pairs
refreshed kind h g (Some r) pairs = set_value (bytes_eq r.key) pairs (shows_of kind h g r.key)

-- what a call that comes after the history makes of the cache of the region g
abbrev pub cached_after : StoreKind → ℕ → List Entry → ℕ → Call → List Pair → List Pair
cached_after kind room h g (Read region k) pairs = cond (region == g) (read_through room k (shows_of kind h g k) pairs) pairs
cached_after kind room h g (Again region v p) pairs = cond (region == g) (refreshed kind h g (row_of h v) pairs) pairs
cached_after kind room h g _ pairs = pairs

-- and what further entries make of it
abbrev pub cache_from : StoreKind → ℕ → List Entry → ℕ → List Pair → List Entry → List Pair
cache_from kind room before g pairs [] = pairs
cache_from kind room before g pairs (e ∷ rest) = cache_from kind room (before ++ e ∷ []) g (cached_after kind room before g e.call pairs) rest

-- The cache of a region after a history, the most recently used first. It begins with no keys.
abbrev pub cache : StoreKind → ℕ → List Entry → ℕ → List Pair
cache kind room h g = cache_from kind room [] g [] h

-- What a region shows for a key whose reads go through a cache: the version there, else the greatest that is whole.
abbrev pub cached_shows : StoreKind → ℕ → List Entry → ℕ → List ℕ → ℕ
cached_shows kind room h g k = unwrap_or (lookup (bytes_eq k) (cache kind room h g)) (shows_of kind h g k)

-- what the regions of a store show, by whether reads go through caches
abbrev pub shows_by : Bool → StoreKind → ℕ → List Entry → ℕ → List ℕ → ℕ
shows_by true kind room = cached_shows kind room
shows_by false kind room = shows_of kind

-- a store as its kind has it, with caches of so many keys where its kind has caches
abbrev pub store_with : StoreKind → ℕ → List ℕ → List Sub → ℕ → ℕ → Store
store_with kind number regions subs tries room =
    record { kind = kind; number = number; regions = regions; subs = subs; tries = tries; room = room; shows = shows_by (facts_of kind).cached kind room }

-- Refreshing.

-- whether a pair is behind what is whole
abbrev pub is_behind : StoreKind → List Entry → ℕ → Pair → Bool
is_behind kind h g pair = nat_lt pair.1 (shows_of kind h g pair.0)

-- what is whole of the first key in the region's cache that is behind
abbrev pub stale_in : Store → List Entry → ℕ → Option ℕ
stale_in s h g = option_map (λ pair. shows_of s.kind h g pair.0) (find (is_behind s.kind h g) (cache s.kind s.room h g))

-- the version that is to come again next to a region, so that its cache is behind no more
abbrev pub stale : Start → List Entry → ℕ → Option ℕ
stale (store s) h g = cond (facts_of s.kind).cached (stale_in s h g) None
stale (inbox requests) h g = None
