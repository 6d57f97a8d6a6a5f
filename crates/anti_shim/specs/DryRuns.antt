-- What a dry run answers.
use Rattle.std.specs.Prelude.{◌≡◌, ℕ, true, List, [], Result, Ok, Err}
use Rattle.std.specs.List.{AllZip, flat_map}
use Rattle.anti_ids.specs.declared.id.WriteId.{WriteId}
use Rattle.anti_ids.specs.Ids.{with_ids}
use Rattle.anti_kind.specs.declared.call.Reply.TheVariants.{Missing}
use Rattle.anti_kind.specs.declared.port.Answer.TheVariants as port
use Rattle.anti_shim.specs.declared.fault.ShimFault.{ShimFault}
use Rattle.anti_kind.specs.declared.refusal.Refusal.TheVariants.{NotYet}
use Rattle.anti_shim.specs.declared.fault.ShimFault.TheVariants.{Refused, Unwritten, LineageFull, NoMemory}
use Rattle.anti_shim.specs.declared.looks.PlannedLook.{PlannedLook}
use Rattle.anti_shim.specs.Steps.{Step}
use Rattle.anti_shim.specs.Looks.{IsLookedAt, LastLook}

-- the set of all ids of these lists
abbrev pub union : List (List WriteId) → List WriteId
union finds = with_ids (flat_map (λ ids. ids) finds) []

-- The dry look was made in this call, and named these ids as not visible.
pub record Names (step : Step) (region : ℕ) (look : PlannedLook) (missing : List WriteId)
    : Type 0 where
  pub clock : ℕ
  pub place : ℕ
  pub stamp : ℕ
  pub unwritten : List WriteId
  pub looked : IsLookedAt step region true look clock
      (port.Made place stamp (Missing missing unwritten))

-- Each answer of a dry run with its cause. A dry look is never `NotYet`.
module _ (step : Step) (region : ℕ) (looks : List PlannedLook) where
  abbrev pub DryRunGives : Result (List WriteId) ShimFault → Type 0
  DryRunGives (Ok named) =
      (finds : List (List WriteId)) × AllZip (Names step region) looks finds × (named ≡ union finds)
  DryRunGives (Err (Refused refusal)) =
      LastLook step region true looks (port.Refused refusal) × (refusal ≡ NotYet → ⊥)
  DryRunGives (Err NoMemory) = Unit {0}
  DryRunGives (Err (Unwritten id)) = ⊥
  DryRunGives (Err (LineageFull id)) = ⊥
