-- What an order of all writes and some reads is worth: it respects the causal order, and explains what the reads show.
use Rattle.std.specs.Prelude.{ℕ, ◌≡◌, ◌≢◌, ◌↔◌, ◌⊎◌, true, List, ◌∷◌, ◌++◌, Some, slice_get, bytes_eq, Contains, AllPairs}
use Rattle.std.specs.List.{find}
use Rattle.std.specs.Option.{option_map_or}
use Rattle.anti_ids.specs.Ids.{has_id}
use Rattle.anti_ids.specs.declared.id.WriteId.{WriteId}
use Rattle.anti_kind.specs.declared.call.Reply.{Reply}
use Rattle.anti_kind.specs.declared.entry.Entry.{Entry}
use Rattle.anti_kind.specs.Replies.{shown, speaks_of}
use Rattle.anti_app.specs.declared.app.App.{App}
use Rattle.law_causal.specs.Words.{reads, wrote}
use Rattle.law_causal.specs.Causal.{Before}
use Rattle.law_causal.specs.Settled.{IsSettled}
use Rattle.law_serial.specs.Order.{writes_at}

-- the version that a read shows of a key; 0, where it shows none
abbrev pub version_shown : Reply → List ℕ → ℕ
version_shown reply key = option_map_or (λ r. r.version) (find (λ r. bytes_eq r.key key) (shown reply)) 0

-- the place is that of a settled read
pub record IsSettledRead (app : App) (trace : List Entry) (r : ℕ) : Type 0 where
  pub entry : Entry
  pub there : slice_get trace r ≡ Some entry
  pub read : reads entry.call ≡ true
  pub settled : IsSettled app trace r entry

-- some of these places have the write of this id
pub record IsWrittenAmong (trace : List Entry) (among : List ℕ) (w : WriteId) : Type 0 where
  pub place : ℕ
  pub entry : Entry
  pub in_list : Contains among place
  pub there : slice_get trace place ≡ Some entry
  pub wrote : has_id w (wrote entry) ≡ true

abbrev pub id_of : ℕ → List ℕ → ℕ → WriteId
id_of store key version = record { store = store; key = key; version = version }

-- none of these places has a write to a key of a store
abbrev pub WritesNone : List Entry → List ℕ → ℕ → List ℕ → Type 0
WritesNone trace among store key = (version : ℕ) → IsWrittenAmong trace among (id_of store key version) → ⊥

-- one of these places has the write of this version of a key of a store, and none behind it has a write to this key
pub record IsLastWrite (trace : List Entry) (among : List ℕ) (store : ℕ) (key : List ℕ) (version : ℕ) : Type 0 where
  pub front : List ℕ
  pub place : ℕ
  pub rest : List ℕ
  pub cut : among ≡ front ++ place ∷ rest
  pub entry : Entry
  pub there : slice_get trace place ≡ Some entry
  pub wrote : has_id (id_of store key version) (wrote entry) ≡ true
  pub none_later : WritesNone trace rest store key

-- The last of the writes at these places to a key of a store has this version; where there is none it is 0.
abbrev pub IsLast : List Entry → List ℕ → ℕ → List ℕ → ℕ → Type 0
IsLast trace among store key version = ((version ≡ 0) × WritesNone trace among store key) ⊎ IsLastWrite trace among store key version

-- The order has all writes of the trace and the reads, each once, and nothing else. What is causally before a member stands before it. Each
-- read shows, of each key that it speaks of, the version of the last of the writes to it that stand before the read.
pub record IsSerial (trace : List Entry) (reads order : List ℕ) : Type 0 where
  pub members : (x : ℕ) → Contains order x ↔ ((writes_at trace x ≡ true) ⊎ Contains reads x)
  pub once : AllPairs (λ x y. x ≢ y) order
  pub respects : (before : List ℕ) (x : ℕ) (after : List ℕ) → order ≡ before ++ x ∷ after
      → (y : ℕ) → Contains order y → Before trace y x → Contains before y
  pub explains : (before : List ℕ) (r : ℕ) (after : List ℕ) → order ≡ before ++ r ∷ after → Contains reads r
      → (e : Entry) → slice_get trace r ≡ Some e → (key : List ℕ) → speaks_of key e.call ≡ true
      → IsLast trace before e.object key (version_shown e.reply key)
