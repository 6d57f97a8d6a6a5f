-- Laws of what processes carry: it was written before, and is just what is causally before.
use Rattle.std.specs.Prelude.{List, ℕ, ◌≡◌, ◌⊎◌, true, ◌↔◌, Some, slice_get, take}
use Rattle.anti_ids.specs.declared.id.WriteId.{WriteId}
use Rattle.anti_ids.specs.Ids.{has_id}
use Rattle.anti_kind.specs.declared.entry.Entry.{Entry}
use Rattle.anti_kind.specs.Stored.{stored}
use Rattle.anti_app.specs.declared.app.App.{App}
use Rattle.law_causal.specs.Words.{brings, wrote, reads}
use Rattle.law_causal.specs.Carried.{carried_at}
use Rattle.law_causal.specs.Causal.{Before, id_replaced}

-- the lineage that is kept beside the write
abbrev pub kept_with : Entry → List WriteId
kept_with e = stored e.call e.reply

-- the past of a read: what is carried into it, and what comes with its rows
abbrev pub InPast : App → List Entry → ℕ → Entry → WriteId → Type 0
InPast app trace j e w = (has_id w (carried_at app trace j e) ≡ true) ⊎ (has_id w (brings app e) ≡ true)

-- What is known of a write at place i, and any entry at place j: where this is a read, the write is causally before it just where its id
-- is in the read's past; where this is a write, just where its id is in the lineage that is kept beside it.
abbrev pub CarriedIsCausal : App → List Entry → Type 0
CarriedIsCausal app trace =
    (i : ℕ) (a : Entry) (w : WriteId) → slice_get trace i ≡ Some a → has_id w (wrote a) ≡ true
    → (j : ℕ) (b : Entry) → slice_get trace j ≡ Some b
    → (reads b.call ≡ true → Before trace i j ↔ InPast app trace j b w)
    × ((v : WriteId) → has_id v (wrote b) ≡ true → Before trace i j ↔ (has_id w (kept_with b) ≡ true))

-- The write e, at place j, replaces one that has the id w, or beside which w is kept.
pub record FromReplaced (trace : List Entry) (j : ℕ) (e : Entry) (w : WriteId) : Type 0 where
  pub place : ℕ
  pub entry : Entry
  pub id : WriteId
  pub there : slice_get trace place ≡ Some entry
  pub wrote : has_id id (wrote entry) ≡ true
  pub replaced : has_id id (id_replaced (take j trace) e) ≡ true
  pub leaves : (w ≡ id) ⊎ (has_id w (kept_with entry) ≡ true)

-- Just what its process carries, the id of the write that it replaces and what is kept beside that are kept beside a write.
abbrev pub KeptIsOver : App → List Entry → Type 0
KeptIsOver app trace =
    (j : ℕ) (e : Entry) (v : WriteId) → slice_get trace j ≡ Some e → has_id v (wrote e) ≡ true
    → (w : WriteId) → (has_id w (kept_with e) ≡ true) ↔ ((has_id w (carried_at app trace j e) ≡ true) ⊎ FromReplaced trace j e w)

-- the entry at a place before j wrote the id, and is causally before what stands at j
pub record WrittenBefore (trace : List Entry) (j : ℕ) (w : WriteId) : Type 0 where
  pub place : ℕ
  pub entry : Entry
  pub there : slice_get trace place ≡ Some entry
  pub wrote : has_id w (wrote entry) ≡ true
  pub before : Before trace place j

-- Each id that a process carries was written before, and causally so. This holds where lineages lose writes too.
abbrev pub CarriedWasWritten : App → List Entry → Type 0
CarriedWasWritten app trace =
    (j : ℕ) (e : Entry) → slice_get trace j ≡ Some e → (w : WriteId) → has_id w (carried_at app trace j e) ≡ true → WrittenBefore trace j w
