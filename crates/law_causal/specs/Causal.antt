-- The causal order of the entries of a trace, by their places in it, counted from 0.
use Rattle.std.specs.Prelude.{ℕ, ◌≡◌, ◌<◌, Bool, true, false, List, [], Option, None, Some, slice_get, take, Contains}
use Rattle.std.specs.Option.{option_map_or}
use Rattle.anti_ids.specs.Ids.{has_id}
use Rattle.anti_ids.specs.declared.id.WriteId.{WriteId}
use Rattle.anti_kind.specs.declared.actor.Actor.{Actor}
use Rattle.anti_kind.specs.declared.actor.Actor.TheVariants.{Process}
use Rattle.anti_kind.specs.declared.call.Call.{Call}
use Rattle.anti_kind.specs.declared.call.Call.TheVariants.{Write}
use Rattle.anti_kind.specs.declared.entry.Entry.{Entry}
use Rattle.anti_kind.specs.declared.row.Row.{Row}
use Rattle.anti_kind.specs.Store.{replaced}
use Rattle.anti_proc.specs.Local.{id_at}
use Rattle.anti_trace.specs.Traces.{entries_on}
use Rattle.law_causal.specs.Words.{Letter, wrote, shown, beside, posts_in, takes_in}

abbrev pub is_process : Actor → Bool
is_process (Process birth) = true
is_process _ = false

-- the entry at place i is an earlier one than that at j of the same process, in the same span
pub record Earlier (i : ℕ) (a : Entry) (j : ℕ) (b : Entry) : Type 0 where
  pub before : i < j
  pub process : is_process a.actor ≡ true
  pub actor : a.actor ≡ b.actor
  pub span : a.span ≡ b.span

-- what one entry posts the other takes, from the same inbox
pub record Delivers (a b : Entry) : Type 0 where
  pub inbox : a.object ≡ b.object
  pub letter : Letter
  pub posted : Contains (posts_in a.call a.reply) letter
  pub taken : Contains (takes_in b.call b.reply) letter

-- the row that a call replaces after a history of its object, where it is a write and there is one
abbrev pub row_replaced : List Entry → Call → Option Row
row_replaced h (Write key value lineage) = replaced h key
row_replaced h call = None

-- the id of the write that an entry replaces, which stands behind these, if there is one
abbrev pub id_replaced : List Entry → Entry → List WriteId
id_replaced before e = option_map_or (λ row. id_at e.object row.key row.version) (row_replaced (entries_on e.object before) e.call) []

-- One entry is causally before another: by the order of a process within a span, by a message from its post to its take, by a row from its
-- write to what shows it, by a row that was stored with a lineage from each write of this lineage to what shows the row, by a write from the
-- one that it replaces, or through a third entry.
pub data Before (trace : List Entry) : ℕ → ℕ → Type 0 where
  program : {i j : ℕ} (a b : Entry) → slice_get trace i ≡ Some a → slice_get trace j ≡ Some b → Earlier i a j b → Before trace i j
  message : {i j : ℕ} (a b : Entry) → slice_get trace i ≡ Some a → slice_get trace j ≡ Some b → Delivers a b → Before trace i j
  row : {i j : ℕ} (a b : Entry) (w : WriteId) → slice_get trace i ≡ Some a → slice_get trace j ≡ Some b
      → has_id w (wrote a) ≡ true → has_id w (shown b) ≡ true → Before trace i j
  lineage : {i j : ℕ} (a b : Entry) (w : WriteId) → slice_get trace i ≡ Some a → slice_get trace j ≡ Some b
      → has_id w (wrote a) ≡ true → has_id w (beside b) ≡ true → Before trace i j
  over : {i j : ℕ} (a b : Entry) (w : WriteId) → slice_get trace i ≡ Some a → slice_get trace j ≡ Some b
      → has_id w (wrote a) ≡ true → has_id w (id_replaced (take j trace) b) ≡ true → Before trace i j
  through : {i k j : ℕ} → Before trace i k → Before trace k j → Before trace i j
