-- The laws of a store's kind: what can be relied on at every store, whatever its table says and whatever its regions show.
use Rattle.std.specs.Prelude.{◌≡◌, ℕ, ◌<◌, ◌≤◌, ◌⊎◌, ◌↔◌, Bool, true, false, List, [], ◌∷◌, ◌++◌, ◌==◌, All, AllPairs, Contains, None, Some}
use Rattle.anti_ids.specs.declared.id.WriteId.{WriteId}
use Rattle.anti_kind.specs.declared.call.Call.{Call}
use Rattle.anti_kind.specs.declared.call.Call.TheVariants.{Read, Scan, Poll, Look, Ship, Again}
use Rattle.anti_kind.specs.declared.call.Reply.{Reply}
use Rattle.anti_kind.specs.declared.call.Reply.TheVariants.{Shown, Missing, Pulled}
use Rattle.anti_kind.specs.declared.entry.Entry.{Entry}
use Rattle.anti_kind.specs.declared.row.Row.{Row}
use Rattle.anti_kind.specs.Kinds.{facts_of}
use Rattle.anti_kind.specs.Stored.{stored, rows, row_of}
use Rattle.anti_kind.specs.Caches.{shows_by}
use Rattle.anti_kind.specs.Store.{Store, is_visible, is_written, absent, shown_row}
use Rattle.anti_kind.specs.Objects.{store, ready, due, IsLegal}
use Rattle.anti_kind.specs.Shipments.{next_ship}
use Rattle.anti_kind.specs.Replies.{named_missing, speaks_of, shown}

-- The regions of a store show what its kind has them show.
abbrev pub ShowsAsItsKind : Store → Type 0
ShowsAsItsKind s = s.shows ≡ shows_by (facts_of s.kind).cached s.kind s.room

-- What a region shows for a key never falls as a legal history grows.
abbrev pub NeverFalls : Store → Type 0
NeverFalls s = (h rest : List Entry) → IsLegal (store s) (h ++ rest) → (g : ℕ) (k : List ℕ) → s.shows h g k ≤ s.shows (h ++ rest) g k

-- the id of a version of a key
abbrev pub id_of : Store → List ℕ → ℕ → WriteId
id_of s k version = record { store = s.number; key = k; version = version }

-- What a region shows for a key is 0 or the version of a write of that history with that key.
abbrev pub ShowsWritten : Store → Type 0
ShowsWritten s = (h : List Entry) → IsLegal (store s) h → (g : ℕ) (k : List ℕ) → (s.shows h g k ≡ 0) ⊎ (is_written h (id_of s k (s.shows h g k)) ≡ true)

-- Looks.

-- A look names as missing exactly those of its ids that are not visible at its region.
abbrev pub LooksRight : Store → Type 0
LooksRight s =
    (h : List Entry) → IsLegal (store s) h → (g : ℕ) (ids : List WriteId) (dry : Bool) (id : WriteId)
    → Contains (named_missing (due (store s) h (Look g ids dry))) id ↔ (Contains ids id × (is_visible s h g id ≡ false))

-- the call is a look at the region for these ids, and its entry says that it found each
pub record FindsAll (g : ℕ) (ids : List WriteId) (look : Entry) : Type 0 where
  pub dry : Bool
  pub call : look.call ≡ Look g ids dry
  pub reply : look.reply ≡ Missing [] []

-- What a look found is visible at its region from then on, and of its key the region shows that version or a later one.
abbrev pub FoundStays : Store → Type 0
FoundStays s =
    (h rest : List Entry) (look : Entry) (g : ℕ) (ids : List WriteId) → IsLegal (store s) (h ++ look ∷ rest) → FindsAll g ids look
    → All (λ id. (is_visible s (h ++ look ∷ rest) g id ≡ true) × (id.version ≤ (shown_row s (h ++ look ∷ rest) g id.key).version)) ids

-- Reads.

-- whether a call is a read at the region g: of one key, of one cell, or of all keys with a prefix
abbrev pub is_read_at : ℕ → Call → Bool
is_read_at g (Read region key) = region == g
is_read_at g (Scan region prefix) = region == g
is_read_at g (Poll region key) = region == g
is_read_at g _ = false

-- c is a read at the region g, and is ready after the legal history h
pub record IsReading (s : Store) (h : List Entry) (g : ℕ) (c : Call) : Type 0 where
  pub legal : IsLegal (store s) h
  pub is_ready : ready (store s) h c ≡ true
  pub is_read : is_read_at g c ≡ true

-- What a read at the region g after h shows: of keys that it speaks of the row that the region shows, and where it has no row of
-- such a key, or one of version 0, the region shows nothing for it.
pub record IsRight (s : Store) (h : List Entry) (g : ℕ) (c : Call) (list : List Row) : Type 0 where
  pub rows_are : All (λ r. (speaks_of r.key c ≡ true) × (r ≡ shown_row s h g r.key)) list
  pub absent : (k : List ℕ) → speaks_of k c ≡ true → All (λ r. r.key ≡ k → r.version ≡ 0) list → s.shows h g k ≡ 0

-- Each read shows what its region shows.
abbrev pub ReadsRight : Store → Type 0
ReadsRight s = (h : List Entry) (g : ℕ) (c : Call) → IsReading s h g c → IsRight s h g c (shown (due (store s) h c))

-- of the store itself, the lineage that is kept beside an entry's write holds only ids that the history before had written
abbrev pub IsOwn : Store → List Entry → Entry → Type 0
IsOwn s h e = All (λ id. id.store ≡ s.number → is_written h id ≡ true) (stored e.call e.reply)

-- and so do those of the further entries
abbrev pub OwnAfter : Store → List Entry → List Entry → Type 0
OwnAfter s h [] = Unit {0}
OwnAfter s h (e ∷ rest) = IsOwn s h e × OwnAfter s (h ++ e ∷ []) rest

-- of the store itself, the lineages that a history stores hold only ids that were written before
abbrev pub OwnIdsWritten : Store → List Entry → Type 0
OwnIdsWritten s h = (before : List Entry) (e : Entry) (after : List Entry) → h ≡ before ++ e ∷ after → IsOwn s before e

-- of each key that the read speaks of, the region shows at least the version that the row's lineage has
abbrev pub IsTogether : Store → List Entry → ℕ → Call → Row → Type 0
IsTogether s h g c r = All (λ id. id.store ≡ s.number → speaks_of id.key c ≡ true → is_visible s h g id ≡ true) r.lineage

-- A read that shows a row shows, of each key that it speaks of, at least what the row's lineage needs.
abbrev pub ReadsTogether : Store → Type 0
ReadsTogether s = (h : List Entry) (g : ℕ) (c : Call) → IsReading s h g c → OwnAfter s [] h → All (IsTogether s h g c) (shown (due (store s) h c))

-- Rows.

-- the row is that of a write of the history
abbrev pub IsOfWrite : List Entry → Row → Type 0
IsOfWrite h r = row_of h r.version ≡ Some r

-- what a reply hands out: a read shows rows of writes, or that a key has none; a pull gives the row of a write
abbrev pub AreSourced : List Entry → Reply → Type 0
AreSourced h (Shown list) = All (λ r. (r ≡ absent r.key) ⊎ IsOfWrite h r) list.items
AreSourced h (Pulled r) = IsOfWrite h r
AreSourced h reply = Unit {0}

-- Each row that a ready call hands out is that of a write, with its key, its value and the lineage that is kept beside it.
abbrev pub RowsHaveSources : Store → Type 0
RowsHaveSources s = (h : List Entry) (c : Call) → IsLegal (store s) h → ready (store s) h c ≡ true → AreSourced h (due (store s) h c)

-- The versions of the writes grow in the order in which they were made.
abbrev pub VersionsGrow : Store → Type 0
VersionsGrow s = (h : List Entry) → IsLegal (store s) h → AllPairs (λ x y. x.version < y.version) (rows h)

-- Regions and ids.

-- the region that a call names is that of a replica, and the ids of a look are of the store itself
abbrev pub NamesOwn : Store → Call → Type 0
NamesOwn s (Read region key) = Contains s.regions region
NamesOwn s (Scan region prefix) = Contains s.regions region
NamesOwn s (Poll region key) = Contains s.regions region
NamesOwn s (Look region ids dry) = Contains s.regions region × All (λ id. id.store ≡ s.number) ids
NamesOwn s (Ship region version part) = Contains s.regions region
NamesOwn s (Again region version part) = Contains s.regions region
NamesOwn s c = Unit {0}

-- A ready call names the store's own.
abbrev pub CallsNameOwn : Store → Type 0
CallsNameOwn s = (h : List Entry) (c : Call) → IsLegal (store s) h → ready (store s) h c ≡ true → NamesOwn s c

-- The next shipment.

-- The shipment that is named as the next to a region is ready.
abbrev pub NextIsReady : Store → Type 0
NextIsReady s = (h : List Entry) (g v p : ℕ) → next_ship (store s) h g ≡ Some (v, p) → ready (store s) h (Ship g v p) ≡ true

-- Where none is named, none to that region is ready.
abbrev pub NoneIsReady : Store → Type 0
NoneIsReady s =
    (h : List Entry) (g : ℕ) → IsLegal (store s) h → next_ship (store s) h g ≡ None → (v p : ℕ) → ready (store s) h (Ship g v p) ≡ false

-- The laws together.
pub record KeepsLaws (s : Store) : Type 0 where
  pub never_falls : NeverFalls s
  pub shows_written : ShowsWritten s
  pub looks_right : LooksRight s
  pub reads_right : ReadsRight s
  pub reads_together : ReadsTogether s
  pub rows_have_sources : RowsHaveSources s
  pub versions_grow : VersionsGrow s
  pub calls_name_own : CallsNameOwn s
