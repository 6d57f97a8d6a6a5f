-- Two calls on a port, one after the other, what a lineage has after a write, what a barrier has seen, what is read behind it, and what a
-- request leaves.
use Rattle.std.specs.Prelude.{◌≡◌, ℕ, ◌≤◌, true, List, [], All, Option, Some, Ok}
use Rattle.anti_ids.specs.Ids.{has_id}
use Rattle.anti_ids.specs.List.{Listed}
use Rattle.anti_ids.specs.declared.id.WriteId.{WriteId}
use Rattle.anti_kind.specs.declared.row.Row.{Row}
use Rattle.anti_kind.specs.Laws.{KeepsLaws}
use Rattle.anti_kind.specs.Objects.{Start, store}
use Rattle.anti_kind.specs.Ports.{View}
use Rattle.anti_kind.specs.Store.{Store}
use Rattle.anti_live.specs.declared.stores.LiveStore.{LiveStore}
use Rattle.anti_live.specs.Headers.{carried_in, carried_out}
use Rattle.anti_shim.specs.declared.barrier_answer.BarrierAnswer.{BarrierAnswer}
use Rattle.anti_shim.specs.declared.barrier_answer.BarrierAnswer.TheVariants.{Clear}
use Rattle.anti_shim.specs.declared.caller.Caller.{Caller}
use Rattle.anti_shim.specs.declared.looks.PlannedLook.{PlannedLook}
use Rattle.anti_shim.specs.declared.sight.Sight.{Sight}
use Rattle.anti_shim.specs.Steps.{Step}
use Rattle.anti_shim.specs.Sights.{HasSights, has_sight}

-- There was a moment between two calls: the first led to it, and the second began with it. Each object starts as before.
pub record Then (step : Step) (First Second : Step → Type 0) : Type 0 where
  pub starts : ℕ → Option Start
  pub same : (o : ℕ) → starts o ≡ step.starts o
  pub views : ℕ → View
  pub who : Caller
  pub first : First (record step { new = views; after = who })
  pub second : Second (record step { starts = starts; old = views; before = who })

-- The lineage has the write now, and all that it had before.
pub record Carries (id : WriteId) (old new : List WriteId) : Type 0 where
  pub write : has_id id new ≡ true
  pub before : (i : WriteId) → has_id i old ≡ true → has_id i new ≡ true

-- Of each planned look there is a sight: it found nothing missing.
pub record AllSeen (region : ℕ) (planned : List PlannedLook) (step : Step) : Type 0 where
  pub sights : List Sight
  pub each : All (λ look. has_sight sights look.store ≡ true) planned
  pub seen : HasSights step.new step.after region planned sights

-- The row shows each version that the lineage has of the key of a store, or a later one.
abbrev pub ShowsEach : ℕ → List ℕ → List WriteId → Row → Type 0
ShowsEach number key lineage row = (version : ℕ) → has_id (record { store = number; key = key; version = version }) lineage ≡ true → version ≤ row.version

-- It does where the store of this number keeps its laws.
abbrev pub ShowsCarried : Option Start → ℕ → List ℕ → List WriteId → Row → Type 0
ShowsCarried start number key lineage row = (s : Store) → start ≡ Some (store s) → KeepsLaws s → ShowsEach number key lineage row

-- any answer of a barrier but that it is clear
abbrev pub IsRefusal : BarrierAnswer → Type 0
IsRefusal (Clear sights) = ⊥
IsRefusal answer = Unit {0}

-- What is carried in one place went as a text to another, where nothing else is carried.
pub record IsHandedOver (stores : List LiveStore) (here there : List WriteId) : Type 0 where
  pub text : Listed ℕ
  pub text_is : carried_out stores here ≡ Ok text
  pub stated : carried_in stores text.items [] ≡ Ok there

-- A header was carried in, and nothing else; then a write was made; and the text is of all that is carried then.
pub record IsServed (stores : List LiveStore) (header : List ℕ) (text : Listed ℕ) : Type 0 where
  pub ids : List WriteId
  pub stated : carried_in stores header [] ≡ Ok ids
  pub id : WriteId
  pub carried : List WriteId
  pub written : Carries id ids carried
  pub text_is : carried_out stores carried ≡ Ok text
