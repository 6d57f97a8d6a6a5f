-- Reads that show nothing older than what is carried into them, and barriers that found all that is carried.
use Rattle.std.specs.Prelude.{ℕ, ◌≡◌, ◌≢◌, ◌<◌, ◌≤◌, ◌↔◌, true, false, Bool, List, [], Option, Some, slice_get, take}
use Rattle.std.specs.Option.{option_and_then}
use Rattle.anti_ids.specs.Ids.{has_id}
use Rattle.anti_ids.specs.declared.id.WriteId.{WriteId}
use Rattle.anti_kind.specs.declared.call.Call.{Call}
use Rattle.anti_kind.specs.declared.call.Call.TheVariants as calls
use Rattle.anti_kind.specs.declared.call.Reply.{Reply}
use Rattle.anti_kind.specs.declared.call.Reply.TheVariants as replies
use Rattle.anti_kind.specs.declared.entry.Entry.{Entry}
use Rattle.anti_kind.specs.Replies.{named_missing}
use Rattle.anti_kind.specs.Objects.{Start, store}
use Rattle.anti_kind.specs.Store.{is_visible}
use Rattle.anti_app.specs.declared.app.App.{App}
use Rattle.anti_app.specs.Objects.{is_store_here}
use Rattle.anti_object.specs.Starts.{start_of}
use Rattle.anti_shim.specs.declared.looks.PlannedLook.{PlannedLook}
use Rattle.anti_trace.specs.Traces.{entries_on}
use Rattle.law_causal.specs.Causal.{Earlier}
use Rattle.law_causal.specs.Carried.{ask_at, carried_at}

-- the region that a read or a look names; 0 of other calls
abbrev pub region_named : Call → ℕ
region_named (calls.Read region key) = region
region_named (calls.Scan region prefix) = region
region_named (calls.Poll region key) = region
region_named (calls.Look region ids dry) = region
region_named call = 0

-- ---- settled reads

-- the ids that a look found visible, all of them: where it named none as missing
abbrev pub found_in : Call → Reply → List WriteId
found_in (calls.Look region ids dry) (replies.Missing [] unwritten) = ids
found_in call reply = []

-- an earlier look of the span found the id, before the entry e at place j
pub record Looked (trace : List Entry) (j : ℕ) (e : Entry) (w : WriteId) : Type 0 where
  pub place : ℕ
  pub entry : Entry
  pub there : slice_get trace place ≡ Some entry
  pub earlier : Earlier place entry j e
  pub found : has_id w (found_in entry.call entry.reply) ≡ true

-- The read e, at place j, is settled: each id that is carried into it, of a store with a replica in the region, was found by an earlier look
-- of the span.
abbrev pub IsSettled : App → List Entry → ℕ → Entry → Type 0
IsSettled app trace j e =
    (w : WriteId) → has_id w (carried_at app trace j e) ≡ true → is_store_here app (region_named e.call) w.store ≡ true → Looked trace j e w

-- ---- barriers

-- Whether an id is visible in a region, by the start of its store and the history of this. Where there is no store, it is not.
abbrev pub is_visible_in : List Entry → ℕ → WriteId → Option Start → Bool
is_visible_in h region w (Some (store s)) = is_visible s h region w
is_visible_in h region w found = false

-- the same after a trace
abbrev pub is_visible_after : App → List Entry → ℕ → WriteId → Bool
is_visible_after app trace region w = is_visible_in (entries_on w.store trace) region w (start_of app w.store)

-- the looks of the same barrier or dry run that are left after the one at place j
abbrev pub left_at : App → List Entry → ℕ → Entry → Option (List PlannedLook)
left_at app trace j e = option_and_then (λ ask. ask.left) (ask_at app trace j e)

-- whether a call is a look of a dry run, and whether it is one of a barrier
abbrev pub is_dry_look : Call → Bool
is_dry_look (calls.Look region ids dry) = dry
is_dry_look call = false

abbrev pub is_barrier_look : Call → Bool
is_barrier_look (calls.Look region ids false) = true
is_barrier_look call = false

-- The look e, at place j, is the last of a barrier or a dry run. One of its looks asked for the id, at the id's store: the process made it
-- with the same lineage, in the same span and region, and since then it came to the last look of no other.
pub record AskedFor (app : App) (trace : List Entry) (j : ℕ) (e : Entry) (w : WriteId) : Type 0 where
  pub place : ℕ
  pub look : Entry
  pub there : slice_get trace place ≡ Some look
  pub ids : List WriteId
  pub call : look.call ≡ calls.Look (region_named e.call) ids (is_dry_look e.call)
  pub asked : has_id w ids ≡ true
  pub store : look.object ≡ w.store
  pub actor : look.actor ≡ e.actor
  pub span : look.span ≡ e.span
  pub carried : carried_at app trace place look ≡ carried_at app trace j e
  pub upto : place ≤ j
  pub since : (i : ℕ) (d : Entry) → place ≤ i → i < j → slice_get trace i ≡ Some d → d.actor ≡ e.actor → left_at app trace i d ≢ Some []

-- A barrier is answered by the last of its looks. Then each id that its process carries, of each store with a replica in the region, was
-- asked for by one of these looks. It was visible at this look, and is visible at the last.
abbrev pub BarriersFindAll : App → List Entry → Type 0
BarriersFindAll app trace =
    (j : ℕ) (e : Entry) → slice_get trace j ≡ Some e → is_barrier_look e.call ≡ true → left_at app trace j e ≡ Some []
    → (w : WriteId) → has_id w (carried_at app trace j e) ≡ true → is_store_here app (region_named e.call) w.store ≡ true
    → (a : AskedFor app trace j e w) × (is_visible_after app (take a.place trace) (region_named e.call) w ≡ true)
    × (is_visible_after app (take j trace) (region_named e.call) w ≡ true)

-- A look of a dry run names, of the ids of its store that its process carries, exactly those that are not visible then. By the last of its
-- looks each id that is carried, of each store with a replica in the region, was asked for.
abbrev pub DryRunsName : App → List Entry → Type 0
DryRunsName app trace =
    (j : ℕ) (e : Entry) → slice_get trace j ≡ Some e → is_dry_look e.call ≡ true → (w : WriteId)
    → ((has_id w (named_missing e.reply) ≡ true)
    ↔ ((has_id w (carried_at app trace j e) ≡ true) × (w.store ≡ e.object)
    × (is_visible_after app (take j trace) (region_named e.call) w ≡ false)))
    × (left_at app trace j e ≡ Some [] → has_id w (carried_at app trace j e) ≡ true → is_store_here app (region_named e.call) w.store ≡ true
    → AskedFor app trace j e w)
