-- The looks that a barrier and a dry run make at the stores of a port.
use Rattle.std.specs.Prelude.{◌≡◌, ℕ, ◌+◌, ◌≤◌, Bool, cond, List, length, ◌==◌, Contains}
use Rattle.std.specs.List.{list_any}
use Rattle.anti_kind.specs.declared.asking.Asking.{Asking}
use Rattle.anti_kind.specs.declared.call.Call.TheVariants.{Look}
use Rattle.anti_kind.specs.declared.port.Answer.{Answer}
use Rattle.anti_shim.specs.declared.caller.Caller.{Caller}
use Rattle.anti_shim.specs.declared.looks.PlannedLook.{PlannedLook}
use Rattle.anti_shim.specs.Steps.{Step, CallerAfter, asking, IsAnswered}

-- a look as a caller asks for it whose last stamp is `clock`
abbrev pub looking : Caller → ℕ → Bool → PlannedLook → ℕ → Asking
looking who region dry look clock =
    asking (record who { clock = clock }) look.store (Look region look.ids dry)

-- the port's answer to the look that was made with that last stamp
abbrev pub IsLookedAt : Step → ℕ → Bool → PlannedLook → ℕ → Answer → Type 0
IsLookedAt step region dry look clock answer =
    IsAnswered step (looking step.before region dry look clock) answer

-- One of these looks was made with that last stamp, and answered so.
pub record SomeLook (step : Step) (region : ℕ) (dry : Bool) (looks : List PlannedLook) (clock : ℕ)
    (answer : Answer) : Type 0 where
  pub look : PlannedLook
  pub planned : Contains looks look
  pub looked : IsLookedAt step region dry look clock answer

-- One of these looks came last, and the port answered so.
abbrev pub LastLook : Step → ℕ → Bool → List PlannedLook → Answer → Type 0
LastLook step region dry looks answer = SomeLook step region dry looks step.after.clock answer

-- An object is as it was, or one of these looks was made there.
pub data AtMostOneLook (step : Step) (region : ℕ) (dry : Bool) (looks : List PlannedLook) (o : ℕ)
    : Type 0 where
  idle : step.new o ≡ step.old o → AtMostOneLook step region dry looks o
  looked : {clock : ℕ} {answer : Answer} (some : SomeLook step region dry looks clock answer)
      → some.look.store ≡ o → AtMostOneLook step region dry looks o

-- at most so many entries were added at an object
abbrev pub AddsAtMost : Step → ℕ → ℕ → Type 0
AddsAtMost step o most = length (step.new o).made ≤ length (step.old o).made + most

-- how many entries these looks may add at an object: one at their stores, none elsewhere
abbrev pub looks_at : ℕ → List PlannedLook → ℕ
looks_at o looks = cond (list_any (λ look. look.store == o) looks) 1 0

-- Of these looks some were made, at most one at an object, and nothing else was done. The caller has
-- their stamps.
pub record OnlyLooks (step : Step) (region : ℕ) (dry : Bool) (looks : List PlannedLook) : Type 0 where
  pub once : (o : ℕ) → AtMostOneLook step region dry looks o
  pub made : (o : ℕ) → AddsAtMost step o (looks_at o looks)
  pub caller : CallerAfter step
