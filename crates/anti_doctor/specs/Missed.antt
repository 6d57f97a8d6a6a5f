-- Which writes reads missed: by a test that tells of each read which writes are causally before it. Entries are named by their places in
-- the trace, counted from 0.
use Rattle.std.specs.Prelude.{ℕ, ◌≡◌, ◌↔◌, nat_lt, Bool, true, false, ◌&&◌, ◌==◌, List, [], ◌∷◌, ◌++◌, Option, None, Some, slice_get, bytes_eq, AllPairs, Contains, if◌then◌else◌}
use Rattle.std.specs.Cmp.Lexicographic.{slice_cmp}
use Rattle.std.specs.List.{list_any}
use Rattle.std.specs.Option.{option_and_then, option_map_or}
use Rattle.std.specs.Ordering.{nat_cmp}
use Rattle.std.specs.declared.cmp.Ordering.TheVariants.{Less}
use Rattle.anti_ids.specs.declared.id.WriteId.{WriteId}
use Rattle.anti_kind.specs.declared.entry.Entry.{Entry}
use Rattle.anti_kind.specs.Replies.{speaks_of}
use Rattle.law_causal.specs.Words.{wrote}
use Rattle.law_causal.specs.Reads.{is_at}
use Rattle.law_serial.specs.Serial.{version_shown}

-- ---- writes

abbrev pub first_of : List WriteId → Option WriteId
first_of [] = None
first_of (w ∷ ws) = Some w

-- the id of the write at a place, where one stands there
abbrev pub write_at : List Entry → ℕ → Option WriteId
write_at trace i = option_and_then (λ e. first_of (wrote e)) (slice_get trace i)

-- whether the write at a place is of the same key of the same store as another, and of a greater version
abbrev pub is_later : WriteId → WriteId → Bool
is_later v w = w.store == v.store && (bytes_eq w.key v.key && nat_lt v.version w.version)

abbrev pub is_over_at : List Entry → ℕ → ℕ → Bool
is_over_at trace i j = option_map_or (λ v. option_map_or (is_later v) (write_at trace j) false) (write_at trace i) false

-- whether the key of the write at one place comes before that at another, byte by byte
abbrev pub HasLowerKey : List Entry → ℕ → ℕ → Type 0
HasLowerKey trace i j =
    (v w : WriteId) → write_at trace i ≡ Some v → write_at trace j ≡ Some w → slice_cmp nat_cmp v.key w.key ≡ Less

-- ---- what a read misses

-- whether a write is one to a key that the read speaks of, of a version above the one that it shows
abbrev pub is_newer : Entry → WriteId → Bool
is_newer e w = w.store == e.object && (speaks_of w.key e.call && nat_lt (version_shown e.reply w.key) w.version)

-- whether the read at place r misses the write at place i, which is causally before it
abbrev pub misses : List Entry → (ℕ → ℕ → Bool) → ℕ → ℕ → Bool
misses trace past r i = past r i && is_at (λ e. option_map_or (is_newer e) (write_at trace i) false) trace r

-- it misses this one, and none of a greater version of its key
pub record MissesMost (trace : List Entry) (past : ℕ → ℕ → Bool) (r i : ℕ) : Type 0 where
  pub missed : misses trace past r i ≡ true
  pub most : (j : ℕ) → misses trace past r j ≡ true → is_over_at trace i j ≡ false

-- just these, one for each key of which it misses a write, ascending by the bytes of the key
pub record AreMissedAt (trace : List Entry) (past : ℕ → ℕ → Bool) (r : ℕ) (writes : List ℕ) : Type 0 where
  pub ascending : AllPairs (HasLowerKey trace) writes
  pub just : (i : ℕ) → Contains writes i ↔ MissesMost trace past r i

-- ---- what some reads miss

-- a read and a write that it misses
pub record Pair : Type 0 where
  pub read : ℕ
  pub write : ℕ

-- a read with each of these writes that it is the first to miss
abbrev pub new_pairs : ℕ → List ℕ → List ℕ → List Pair
new_pairs r [] seen = []
new_pairs r (i ∷ is) seen =
    if list_any (λ j. j == i) seen then new_pairs r is seen else record { read = r; write = i } ∷ new_pairs r is seen

-- Of the reads in turn these are what they miss, where the writes that are seen were missed before.
abbrev pub AreMissed : List Entry → (ℕ → ℕ → Bool) → List ℕ → List ℕ → List Pair → Type 0
AreMissed trace past [] seen missed = missed ≡ []
AreMissed trace past (r ∷ rs) seen missed =
    (writes : List ℕ) × (rest : List Pair) × AreMissedAt trace past r writes × (missed ≡ new_pairs r writes seen ++ rest)
    × AreMissed trace past rs (writes ++ seen) rest
