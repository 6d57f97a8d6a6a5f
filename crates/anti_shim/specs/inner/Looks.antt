-- One look, as the private functions make it.
use Rattle.std.specs.Prelude.{◌≡◌, ℕ, true, List, [], ◌∷◌, ◌++◌, Result, Ok, Err}
use Rattle.anti_ids.specs.declared.id.WriteId.{WriteId}
use Rattle.anti_kind.specs.declared.call.Call.TheVariants.{Look}
use Rattle.anti_kind.specs.declared.call.Reply.{Reply}
use Rattle.anti_kind.specs.declared.call.Reply.TheVariants.{Missing}
use Rattle.anti_shim.specs.declared.barrier_answer.BarrierAnswer.{BarrierAnswer}
use Rattle.anti_shim.specs.declared.barrier_answer.BarrierAnswer.TheVariants as answers
use Rattle.anti_shim.specs.declared.fault.ShimFault.{ShimFault}
use Rattle.anti_shim.specs.declared.fault.ShimFault.TheVariants.{Refused, Unwritten, LineageFull, NoMemory}
use Rattle.anti_shim.specs.declared.looks.PlannedLook.{PlannedLook}
use Rattle.anti_shim.specs.declared.sight.Sight.{Sight}
use Rattle.anti_shim.specs.Steps.{Step}
use Rattle.anti_shim.specs.Shims.{OneCall, Sees}

-- a dry look for these ids gives what it named as missing
abbrev pub IsMissing : Reply → List WriteId → Type 0
IsMissing reply missing = (unwritten : List WriteId) × (reply ≡ Missing missing unwritten)

abbrev pub SeesDry : Step → ℕ → ℕ → List WriteId → Result (List WriteId) ShimFault → Type 0
SeesDry step store region ids result = OneCall step store (Look region ids true) IsMissing result

-- a sight is put behind the others, and with a fault they stay
module _ (before after : List Sight) where
  abbrev pub Keeps : Result Sight ShimFault → Result (Unit {0}) ShimFault → Type 0
  Keeps (Ok sight) result = (result ≡ Ok tt) × (after ≡ before ++ sight ∷ [])
  Keeps (Err fault) result = (result ≡ Err fault) × (after ≡ before)

-- a planned look of a barrier, whose sight is kept
pub record LooksOnce (step : Step) (region : ℕ) (look : PlannedLook) (before after : List Sight)
    (result : Result (Unit {0}) ShimFault) : Type 0 where
  pub sight : Result Sight ShimFault
  pub seen : Sees step look.store region look.ids sight
  pub kept : Keeps before after sight result

-- the faults that a look gives
abbrev pub IsOfLook : ShimFault → Type 0
IsOfLook (LineageFull id) = ⊥
IsOfLook _ = Unit {0}

-- the answer of a barrier whose look gave this fault
abbrev pub IsRefusal : ShimFault → BarrierAnswer → Type 0
IsRefusal (Refused refusal) answer = answer ≡ answers.Refused refusal
IsRefusal (Unwritten id) answer = answer ≡ answers.Unwritten id
IsRefusal (LineageFull id) answer = ⊥
IsRefusal NoMemory answer = answer ≡ answers.NoMemory
