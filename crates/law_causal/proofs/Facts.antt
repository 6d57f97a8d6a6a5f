-- What the causal order needs of a trace: of its objects, and of its processes.
use Rattle.std.proofs.Common.{◌≡◌, ℕ, ◌<◌, ◌⊎◌, true, List, []}
use Rattle.std.specs.Prelude.{Contains, Some, slice_get, take}
use Rattle.anti_ids.specs.Ids.{has_id}
use Rattle.anti_ids.specs.declared.id.WriteId.{WriteId}
use Rattle.anti_kind.specs.declared.entry.Entry.{Entry}
use Rattle.anti_kind.specs.declared.row.Row.{Row}
use Rattle.anti_app.specs.declared.app.App.{App}
use Rattle.anti_proc.specs.Local.{id_at}
use Rattle.law_causal.specs.Words.{wrote, rows_in, hands_all}
use Rattle.law_causal.specs.inner.Taken.{taken, told}
use Rattle.law_causal.specs.Pasts.{FromReplaced, kept_with}
use Rattle.law_causal.specs.Causal.{Delivers, id_replaced, is_process}
use Rattle.law_causal.specs.Carried.{Brought, carried_at}

-- the write of a row that stands in the reply at place j
pub record RowSource (trace : List Entry) (j : ℕ) (b : Entry) (r : Row) : Type 0 where
  pub place : ℕ
  pub entry : Entry
  pub there : slice_get trace place ≡ Some entry
  pub before : place < j
  pub wrote : wrote entry ≡ id_at b.object r.key r.version
  pub kept : kept_with entry ≡ r.lineage

-- the post of the message that is taken at place j
pub record LetterSource (trace : List Entry) (j : ℕ) (b : Entry) : Type 0 where
  pub place : ℕ
  pub entry : Entry
  pub there : slice_get trace place ≡ Some entry
  pub delivers : Delivers entry b

-- what is posted at place i is taken at place j
pub record Passes (app : App) (trace : List Entry) (i : ℕ) (a : Entry) (j : ℕ) (b : Entry) : Type 0 where
  pub before : i < j
  pub process : is_process a.actor ≡ true
  pub hands : hands_all a.call ≡ true
  pub same : (w : WriteId) → has_id w (taken app b) ≡ has_id w (carried_at app trace i a)

-- A write is one of a process. It keeps what this carries, and of more only what the write that it replaces leaves; what it does not tell of
-- that is carried.
pub record Writes (app : App) (trace : List Entry) (j : ℕ) (e : Entry) : Type 0 where
  pub process : is_process e.actor ≡ true
  pub keeps : (w : WriteId) → has_id w (carried_at app trace j e) ≡ true → has_id w (kept_with e) ≡ true
  pub from : (w : WriteId) → has_id w (kept_with e) ≡ true → (has_id w (carried_at app trace j e) ≡ true) ⊎ FromReplaced trace j e w
  pub tells : (w : WriteId) → has_id w (kept_with e) ≡ true → (has_id w (told e) ≡ true) ⊎ (has_id w (carried_at app trace j e) ≡ true)

-- The entry b, at place j, replaces the write a, at place i: it keeps the id of this, and what is kept beside it.
pub record Replaces (i : ℕ) (a : Entry) (j : ℕ) (b : Entry) : Type 0 where
  pub before : i < j
  pub id : (w : WriteId) → has_id w (wrote a) ≡ true → has_id w (kept_with b) ≡ true
  pub kept : (w : WriteId) → has_id w (kept_with a) ≡ true → has_id w (kept_with b) ≡ true

pub record Facts (app : App) (trace : List Entry) : Type 0 where
  -- each write has an id of its own
  pub once : (i j : ℕ) (a b : Entry) (w : WriteId) → slice_get trace i ≡ Some a → slice_get trace j ≡ Some b
      → has_id w (wrote a) ≡ true → has_id w (wrote b) ≡ true → i ≡ j
  pub writes : (j : ℕ) (e : Entry) (w : WriteId) → slice_get trace j ≡ Some e → has_id w (wrote e) ≡ true → Writes app trace j e
  -- what is kept is kept beside a write
  pub keeper : (j : ℕ) (e : Entry) (w : WriteId) → slice_get trace j ≡ Some e → has_id w (kept_with e) ≡ true
      → (v : WriteId) × (has_id v (wrote e) ≡ true)
  -- what is replaced is an earlier write
  pub replaces : (i j : ℕ) (a b : Entry) (w : WriteId) → slice_get trace i ≡ Some a → slice_get trace j ≡ Some b
      → has_id w (wrote a) ≡ true → has_id w (id_replaced (take j trace) b) ≡ true → Replaces i a j b
  -- what is carried came to the span
  pub came : (j : ℕ) (e : Entry) → slice_get trace j ≡ Some e → (w : WriteId) → has_id w (carried_at app trace j e) ≡ true → Brought app trace j e w
  -- rows are those of writes; one of version 0 has no lineage
  pub rows : (j : ℕ) (b : Entry) (r : Row) → slice_get trace j ≡ Some b → Contains (rows_in b.call b.reply) r → 0 < r.version → RowSource trace j b r
  pub absent : (j : ℕ) (b : Entry) (r : Row) → slice_get trace j ≡ Some b → Contains (rows_in b.call b.reply) r → r.version ≡ 0 → r.lineage ≡ []
  -- a lineage that is taken was posted, and a message is taken after its post, with what was carried into it
  pub letters : (j : ℕ) (b : Entry) (w : WriteId) → slice_get trace j ≡ Some b → has_id w (taken app b) ≡ true → LetterSource trace j b
  pub passes : (i j : ℕ) (a b : Entry) → slice_get trace i ≡ Some a → slice_get trace j ≡ Some b → Delivers a b → Passes app trace i a j b
