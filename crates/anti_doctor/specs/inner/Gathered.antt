-- What a walk along a trace keeps of what is causally before its entries: sets of the numbers of writes.
use Rattle.std.specs.Prelude.{ℕ, ◌≡◌, ◌<◌, ◌↔◌, ◌++◌, ◌||◌, ◌&&◌, ◌==◌, ◌⊎◌, Bool, true, false, cond, List, [], ◌∷◌, Option, None, Some, flat_map, length, slice_get}
use Rattle.std.specs.BTreeMap as tree
use Rattle.std.specs.List.{list_any}
use Rattle.std.specs.Option.{option_and_then}
use Rattle.anti_ids.specs.declared.id.WriteId.{WriteId}
use Rattle.anti_kind.specs.declared.entry.Entry.{Entry}
use Rattle.anti_kind.specs.declared.row.Row.{Row}
use Rattle.anti_proc.specs.Local.{id_at}
use Rattle.law_causal.specs.Causal.{Before}
use Rattle.law_causal.specs.Words.{shown, wrote}
use Rattle.law_causal.specs.inner.Taken.{told}
use Rattle.law_serial.specs.Order.{is_some_id, writes_at}
use Rattle.anti_order.specs.declared.writes.Writes.{Writes}
use Rattle.anti_order.specs.inner.NumberSets.{has, room, room_for}
use Rattle.anti_order.specs.inner.Writes.{number_at, number_in, write_places}
use Rattle.anti_doctor.specs.declared.causes.Causes.{Causes}
use Rattle.anti_doctor.specs.declared.passages.Passage.{Passage}
use Rattle.anti_doctor.specs.inner.Passages.{feeds, is_by, passage_cmp, span_of, taken_of}

-- ---- sets

-- whether a number is in a set, where there is one
abbrev pub has_in : Option (List ℕ) → ℕ → Bool
has_in None n = false
has_in (Some set) n = has set n

-- The set has room as it should, and with the number of a write all that is kept of it.
pub record IsClosed (kept : List (List ℕ)) (its_room : ℕ) (set : List ℕ) : Type 0 where
  pub room : room set ≡ its_room
  pub below : (m : ℕ) → has set m ≡ true → m < length kept
  pub closed : (m n : ℕ) → has set m ≡ true → has_in (slice_get kept m) n ≡ true → has set n ≡ true

-- and so has each set that is kept
pub record AreClosed (its_room : ℕ) (causes : Causes) : Type 0 where
  pub kept : (m : ℕ) (set : List ℕ) → slice_get causes.kept.items m ≡ Some set → IsClosed causes.kept.items its_room set
  pub passed : (q : Passage) (set : List ℕ) → tree.get passage_cmp causes.passed q ≡ Some set → IsClosed causes.kept.items its_room set

-- they are so, with as much room as a set which is so too
pub record IsReady (causes : Causes) (set : List ℕ) : Type 0 where
  pub sets : AreClosed (room set) causes
  pub closed : IsClosed causes.kept.items (room set) set

-- Numbers were added to a set, which is one as it should be.
pub record Joins (kept : List (List ℕ)) (adds : ℕ → Bool) (old new : List ℕ) : Type 0 where
  pub joined : (n : ℕ) → has new n ≡ (has old n || adds n)
  pub closed : IsClosed kept (room old) new

-- ---- what an entry draws

-- whether what came by a passage has a number
abbrev pub has_passed : Causes → Option Passage → ℕ → Bool
has_passed causes passage n = has_in (option_and_then (λ q. tree.get passage_cmp causes.passed q) passage) n

-- whether what is kept of the write of an id has it, and of one of these
abbrev pub has_kept : Causes → Writes → ℕ → WriteId → Bool
has_kept causes writes n w = has_in (option_and_then (λ m. slice_get causes.kept.items m) (number_in writes w)) n

abbrev pub have_kept : Causes → Writes → List WriteId → ℕ → Bool
have_kept causes writes ids n = list_any (has_kept causes writes n) ids

-- the ids of the versions that rows of a store show
abbrev pub ids_of_rows : ℕ → List Row → List WriteId
ids_of_rows store rows = flat_map (λ row. id_at store row.key row.version) rows

-- An entry draws from its span, from the letter that it takes, from the writes that it shows, and from those that its reply tells are kept
-- beside it.
abbrev pub draws : Causes → Writes → Entry → ℕ → Bool
draws causes writes e n =
    ((has_passed causes (span_of e) n || has_passed causes (taken_of e) n) || have_kept causes writes (shown e) n)
    || have_kept causes writes (told e) n

-- ---- what is noted of an entry

-- The set of what is before the entry e has the entry's own number too, where it is a write, and is kept then.
pub record Keeps (e : Entry) (set own : List ℕ) (old new : Causes) : Type 0 where
  pub adds : (n : ℕ) → n < room set → has own n ≡ (has set n || (is_some_id (wrote e) && (n == length old.kept.items)))
  pub kept : new.kept.items ≡ old.kept.items ++ cond (is_some_id (wrote e)) (own ∷ []) []
  pub passed : new.passed ≡ old.passed
  pub room : room own ≡ room set
  pub ready : IsReady new own

-- A set was handed on by a passage, if there is one.
pub record Passes (passage : Option Passage) (set : List ℕ) (old new : Causes) : Type 0 where
  pub kept : new.kept.items ≡ old.kept.items
  pub passed : (q : Passage) (n : ℕ)
      → has_in (tree.get passage_cmp new.passed q) n ≡ (has_in (tree.get passage_cmp old.passed q) n || (is_by q passage && has set n))
  pub ready : IsReady new set

-- The set of what is before the entry e was noted: with the entry itself, where it is a write, it is kept of this, and handed on.
pub record Notes (e : Entry) (set : List ℕ) (old new : Causes) : Type 0 where
  pub own : List ℕ
  pub adds : (n : ℕ) → n < room set → has own n ≡ (has set n || (is_some_id (wrote e) && (n == length old.kept.items)))
  pub kept : new.kept.items ≡ old.kept.items ++ cond (is_some_id (wrote e)) (own ∷ []) []
  pub passed : (q : Passage) (n : ℕ)
      → has_in (tree.get passage_cmp new.passed q) n ≡ (has_in (tree.get passage_cmp old.passed q) n || (feeds q e && has own n))
  pub closed : AreClosed (room set) new

-- ---- what is known

-- a write is the entry at a place, or causally before it
abbrev pub IsUpTo : List Entry → ℕ → ℕ → Type 0
IsUpTo trace i k = (i ≡ k) ⊎ Before trace i k

-- It came by a passage from an entry before place j.
pub record HasPassed (trace : List Entry) (j : ℕ) (q : Passage) (i : ℕ) : Type 0 where
  pub place : ℕ
  pub entry : Entry
  pub there : slice_get trace place ≡ Some entry
  pub low : place < j
  pub feeds : feeds q entry ≡ true
  pub upto : IsUpTo trace i place

-- At place j of a trace the sets tell, of each write before it, what is before this and the write itself, and what came by each passage.
pub record KnowsCauses (trace : List Entry) (j : ℕ) (causes : Causes) : Type 0 where
  pub closed : AreClosed (room_for (length (write_places trace))) causes
  pub count : length causes.kept.items ≡ number_at trace j
  pub kept : (i k : ℕ) → writes_at trace i ≡ true → writes_at trace k ≡ true → k < j
      → has_in (slice_get causes.kept.items (number_at trace k)) (number_at trace i) ≡ true ↔ IsUpTo trace i k
  pub passed : (i : ℕ) (q : Passage) → writes_at trace i ≡ true
      → has_in (tree.get passage_cmp causes.passed q) (number_at trace i) ≡ true ↔ HasPassed trace j q i
