-- The places of the writes of a trace by their keys, as a map keeps them.
use Rattle.std.specs.Prelude.{ℕ, ◌≡◌, Bool, false, List, []}
use Rattle.std.specs.BTreeMap.{BTreeMap, get}
use Rattle.std.specs.Cmp.Lexicographic.{slice_cmp}
use Rattle.std.specs.Global.{Vec}
use Rattle.std.specs.List.{filter, range_with_len}
use Rattle.std.specs.Option.{option_map_or}
use Rattle.std.specs.Ordering.{is_eq, nat_cmp, ordering_then}
use Rattle.std.specs.declared.cmp.Ordering.{Ordering}
use Rattle.anti_ids.specs.declared.id.WriteId.{WriteId}
use Rattle.anti_kind.specs.declared.entry.Entry.{Entry}
use Rattle.law_causal.specs.Words.{wrote}
use Rattle.law_causal.specs.Reads.{is_at}
use Rattle.anti_doctor.specs.declared.write_index.StoreKey.{StoreKey}
use Rattle.anti_doctor.specs.Missed.{first_of}

-- by the store, and by the bytes of the key
abbrev pub key_cmp : StoreKey → StoreKey → Ordering
key_cmp a b = ordering_then (nat_cmp a.store b.store) (slice_cmp nat_cmp a.key b.key)

abbrev pub same_key : StoreKey → StoreKey → Bool
same_key a b = is_eq (key_cmp a b)

-- the key that a write is to
abbrev pub key_of : WriteId → StoreKey
key_of w = record { store = w.store; key = w.key }

-- whether an entry is a write to a key
abbrev pub writes_to : StoreKey → Entry → Bool
writes_to q e = option_map_or (λ w. same_key (key_of w) q) (first_of (wrote e)) false

-- the places of the writes to a key before place k
abbrev pub places_before : List Entry → ℕ → StoreKey → List ℕ
places_before trace k q = filter (is_at (writes_to q) trace) (range_with_len 0 k)

-- what a map has under a key
abbrev pub places_under : BTreeMap StoreKey (Vec ℕ) → StoreKey → List ℕ
places_under index q = option_map_or (λ places. places.items) (get key_cmp index q) []

-- It has the places of the writes to each key before place k.
abbrev pub IsIndexOf : List Entry → ℕ → BTreeMap StoreKey (Vec ℕ) → Type 0
IsIndexOf trace k index = (q : StoreKey) → places_under index q ≡ places_before trace k q
