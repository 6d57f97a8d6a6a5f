-- What a barrier answers.
use Rattle.std.specs.Prelude.{◌≡◌, ℕ, false, true, List, [], ◌∷◌, ◌++◌, All, Contains, Some}
use Rattle.anti_ids.specs.declared.id.WriteId.{WriteId}
use Rattle.anti_ids.specs.Counts.{Rose}
use Rattle.anti_kind.specs.declared.entry.Entry.{Entry}
use Rattle.anti_kind.specs.declared.call.Reply.TheVariants.{Missing}
use Rattle.anti_kind.specs.declared.port.Answer.TheVariants as port
use Rattle.anti_kind.specs.Store.{Store, is_visible}
use Rattle.anti_kind.specs.Objects.{store}
use Rattle.anti_shim.specs.declared.barrier_answer.BarrierAnswer.{BarrierAnswer}
use Rattle.anti_kind.specs.declared.refusal.Refusal.TheVariants.{NotYet}
use Rattle.anti_shim.specs.declared.barrier_answer.BarrierAnswer.TheVariants.{Clear, Refused, Unwritten, NoMemory}
use Rattle.anti_shim.specs.declared.looks.PlannedLook.{PlannedLook}
use Rattle.anti_shim.specs.declared.sight.Sight.{Sight}
use Rattle.anti_shim.specs.Steps.{Step, IsAdded}
use Rattle.anti_shim.specs.Sights.{has_sight, unseen, HasSights}
use Rattle.anti_shim.specs.Looks.{SomeLook, LastLook, OnlyLooks}

-- the sights that there are after a call: those that it hands out, else the cursor's
abbrev pub sights_after : BarrierAnswer → List Sight → List Sight
sights_after (Clear sights) cursor = sights.items
sights_after _ cursor = cursor

-- the sight of a look, by its store and its entry
abbrev pub sight_of : ℕ → Entry → Sight
sight_of o e = record { store = o; place = e.place; stamp = e.stamp }

-- The sights that there were stand first, and each look of this call that found nothing missing has
-- one.
pub record KeepsSights (step : Step) (before after : List Sight) : Type 0 where
  pub more : List Sight
  pub front : after ≡ before ++ more
  pub kept : (o : ℕ) (e : Entry) → IsAdded step o e → e.reply ≡ Missing [] []
      → Contains after (sight_of o e)

-- The store was asked, and an id that is planned for it is not visible in the history that was then
-- seen.
pub record Misses (step : Step) (region : ℕ) (look : PlannedLook) : Type 0 where
  pub start : Store
  pub is_start : step.starts look.store ≡ Some (store start)
  pub visits : Rose (step.old look.store).visits (step.new look.store).visits
  pub id : WriteId
  pub planned : Contains look.ids id
  pub hidden : is_visible start (step.new look.store).seen region id ≡ false

-- One of these looks was made last, and named this id first as unwritten.
pub record NamesUnwritten (step : Step) (region : ℕ) (looks : List PlannedLook) (id : WriteId)
    : Type 0 where
  pub clock : ℕ
  pub place : ℕ
  pub missing : List WriteId
  pub further : List WriteId
  pub look : SomeLook step region false looks clock
      (port.Made place step.after.clock (Missing missing (id ∷ further)))

-- No look was refused at an object: nothing was asked there, or one of these looks was made and found
-- nothing missing, or there was no memory for it.
pub data NotRefused (step : Step) (region : ℕ) (looks : List PlannedLook) (o : ℕ) : Type 0 where
  idle : step.new o ≡ step.old o → NotRefused step region looks o
  found : {clock place stamp : ℕ}
      (some : SomeLook step region false looks clock (port.Made place stamp (Missing [] [])))
      → some.look.store ≡ o → NotRefused step region looks o
  wanted : {clock : ℕ} (some : SomeLook step region false looks clock port.NoMemory)
      → some.look.store ≡ o → NotRefused step region looks o

-- Each answer of a barrier with its cause: `planned` are the planned looks, `looks` those of which
-- there was no sight, and `cursor` what is left of the cursor.
module _ (step : Step) (region : ℕ) (planned looks : List PlannedLook) (cursor : List Sight) where
  abbrev pub BarrierGives : BarrierAnswer → Type 0
  BarrierGives (Clear sights) =
      All (λ look. has_sight sights.items look.store ≡ true) planned × (cursor ≡ [])
  BarrierGives (Refused refusal) =
      (last : LastLook step region false looks (port.Refused refusal))
      × (refusal ≡ NotYet → Misses step region last.look)
  BarrierGives (Unwritten id) = NamesUnwritten step region looks id
  BarrierGives NoMemory = (o : ℕ) → NotRefused step region looks o

-- What a barrier does and answers, where `planned` are the planned looks, `before` the sights that
-- were left in the cursor and `after` what is left there.
pub record BarrierDoes (step : Step) (region : ℕ) (planned : List PlannedLook)
    (before after : List Sight) (answer : BarrierAnswer) : Type 0 where
  pub gives : BarrierGives step region planned (unseen before planned) after answer
  pub sights : HasSights step.new step.after region planned (sights_after answer after)
  pub kept : KeepsSights step before (sights_after answer after)
  pub only : OnlyLooks step region false (unseen before planned)
