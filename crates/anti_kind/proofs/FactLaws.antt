-- What goes together in what the stores of a kind do.
use Rattle.std.proofs.Common.{◌≡◌, ℕ, ◌+◌, ◌/◌, ◌≤◌, List, Bool, true, false, cond, ◌&&◌, length, refl, ap, arith}
use Rattle.std.specs.Prelude.{max}
use Rattle.std.specs.List.{list_all, range_with_len}
use Rattle.std.proofs.lemmas.Bool.{false≢true}
use Rattle.anti_ids.specs.declared.limits.TheConstants.{PART_BYTES}
use Rattle.anti_kind.specs.declared.entry.Entry.{Entry}
use Rattle.anti_kind.specs.declared.row.Row.{Row}
use Rattle.anti_kind.specs.declared.store_kind.StoreKind.{StoreKind}
use Rattle.anti_kind.specs.declared.store_kind.StoreKind.TheVariants.{Kv, Table, Blob, Queue, Topic, Cached}
use Rattle.anti_kind.specs.Shipments.{AreTries}
use Rattle.anti_kind.specs.Starts.{HasRoom, HasTries, IsRoom, is_pulled}
use Rattle.anti_kind.specs.Kinds.{facts_of}
use Rattle.anti_kind.specs.Stored.{is_shipped, is_whole, parts_of}

-- what is scanned comes in order
pub scanned_ordered : (kind : StoreKind) → (facts_of kind).scanned ≡ true → (facts_of kind).ordered ≡ true
scanned_ordered Table is = refl
scanned_ordered Kv is = is
scanned_ordered Blob is = is
scanned_ordered Queue is = is
scanned_ordered Topic is = is
scanned_ordered Cached is = is

-- what is scanned has no caches
pub scanned_uncached : (kind : StoreKind) → (facts_of kind).scanned ≡ true → (facts_of kind).cached ≡ false
scanned_uncached Cached is = absurd (false≢true is)
scanned_uncached _ is = refl

-- what comes in order comes whole
pub ordered_whole : (kind : StoreKind) (value : List ℕ) → (facts_of kind).ordered ≡ true → parts_of kind value ≡ 1
ordered_whole Blob value is = absurd (false≢true is)
ordered_whole _ value is = refl

-- what comes whole is whole at a region where its one part came
pub one_is_whole : (kind : StoreKind) (h : List Entry) (g : ℕ) (r : Row) → (facts_of kind).ordered ≡ true → is_whole kind h g r ≡ (is_shipped h g r.version 1 && true)
one_is_whole kind h g r is = ap (λ (n : ℕ). list_all (λ p. is_shipped h g r.version p) (range_with_len 1 n)) (ordered_whole kind r.value is)

-- a value has a part
pub has_parts : (kind : StoreKind) (value : List ℕ) → 1 ≤ parts_of kind value
has_parts kind value = by_parts (facts_of kind).parted
  where
    by_parts : (parted : Bool) → 1 ≤ cond parted (max 1 ((length value + 63) / PART_BYTES)) 1
    by_parts true = omega arith
    by_parts false = omega arith

-- a store that is read by its keys hands nothing out
pub keyed_or_pulled : (kind : StoreKind) → (facts_of kind).keyed ≡ true → is_pulled kind ≡ true → ⊥
keyed_or_pulled Kv keyed pulled = false≢true pulled
keyed_or_pulled Table keyed pulled = false≢true pulled
keyed_or_pulled Blob keyed pulled = false≢true pulled
keyed_or_pulled Queue keyed pulled = false≢true keyed
keyed_or_pulled Topic keyed pulled = false≢true keyed
keyed_or_pulled Cached keyed pulled = false≢true pulled

-- what is polled is not tried
pub polled_not_tried : (kind : StoreKind) → (facts_of kind).polled ≡ true → (facts_of kind).tried ≡ false
polled_not_tried Queue is = absurd (false≢true is)
polled_not_tried _ is = refl

-- where messages are tried there are tries, else none
pub tries_fit : (kind : StoreKind) (tries : ℕ) → 1 ≤ tries → tries ≤ 8 → HasTries kind (cond (facts_of kind).tried tries 0)
tries_fit kind tries some few = by_tried (facts_of kind).tried
  where
    by_tried : (tried : Bool) → AreTries tried (cond tried tries 0)
    by_tried true = (some, few)
    by_tried false = tt

-- where there are caches they have room, else none
pub room_fits : (kind : StoreKind) (room : ℕ) → 1 ≤ room → room ≤ 64 → HasRoom kind (cond (facts_of kind).cached room 0)
room_fits kind room some few = by_cached (facts_of kind).cached
  where
    by_cached : (cached : Bool) → IsRoom cached (cond cached room 0)
    by_cached true = (some, few)
    by_cached false = tt
