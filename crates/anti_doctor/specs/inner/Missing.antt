-- The writes that a read misses most, as they are found: key by key.
use Rattle.std.specs.Prelude.{ℕ, ◌≡◌, ◌<◌, Bool, ◌&&◌, ◌==◌, nat_lt, List, [], ◌∷◌, ◌++◌, Option, None, Some, All, cond, slice_get, take}
use Rattle.std.specs.Global.{Vec}
use Rattle.std.specs.Option.{option_map_or, option_or, option_to_list}
use Rattle.anti_kind.specs.declared.call.Call.{Call}
use Rattle.anti_kind.specs.declared.call.Call.TheVariants.{Read, Scan, Poll}
use Rattle.anti_kind.specs.declared.entry.Entry.{Entry}
use Rattle.anti_kind.specs.Replies.{speaks_of}
use Rattle.law_serial.specs.Serial.{version_shown}
use Rattle.anti_order.specs.inner.NumberSets.{has}
use Rattle.anti_order.specs.inner.Writes.{number_at}
use Rattle.anti_doctor.specs.declared.write_index.StoreKey.{StoreKey}
use Rattle.anti_doctor.specs.Missed.{write_at}

-- ---- one key

-- the version of the write at a place; 0, where none stands there
abbrev pub version_at : List Entry → ℕ → ℕ
version_at trace i = option_map_or (λ w. w.version) (write_at trace i) 0

-- of the writes at these places each has a version above all before it
abbrev pub Ascend : List Entry → List ℕ → Type 0
Ascend trace places = (n p : ℕ) → slice_get places n ≡ Some p → All (λ i. version_at trace i < version_at trace p) (take n places)

-- whether the write at a place is one of a set, and of a version above one that is shown
abbrev pub is_missed : List Entry → List ℕ → ℕ → ℕ → Bool
is_missed trace set shown i = nat_lt shown (version_at trace i) && has set (number_at trace i)

-- the last of some places that passes a test
abbrev pub newest_of : (ℕ → Bool) → List ℕ → Option ℕ
newest_of test [] = None
newest_of test (i ∷ is) = option_or (newest_of test is) (cond (test i) (Some i) None)

-- ---- the keys of a read

-- the least key of which a read may speak
abbrev pub key_from : ℕ → Call → Option StoreKey
key_from object (Read region key) = Some (record { store = object; key = key })
key_from object (Scan region prefix) = Some (record { store = object; key = prefix })
key_from object (Poll region key) = Some (record { store = object; key = key })
key_from object call = None

-- whether a read speaks of a key of a store
abbrev pub is_spoken : Entry → StoreKey → Bool
is_spoken e q = q.store == e.object && speaks_of q.key e.call

-- the write that a read e misses most under a key, by the set of the numbers of the writes that are causally before it
abbrev pub missed_under : List Entry → List ℕ → Entry → StoreKey × Vec ℕ → Option ℕ
missed_under trace set e x = newest_of (is_missed trace set (version_shown e.reply x.0.key)) x.1.items

-- those under keys one after another, up to the first of which the read doesn't speak
abbrev pub missed_from : List Entry → List ℕ → Entry → List (StoreKey × Vec ℕ) → List ℕ
missed_from trace set e [] = []
missed_from trace set e (x ∷ xs) = cond (is_spoken e x.0) (option_to_list (missed_under trace set e x) ++ missed_from trace set e xs) []
