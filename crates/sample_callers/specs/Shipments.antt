-- What became of shipments.
use Rattle.std.specs.Prelude.{◌≡◌, ℕ, ◌<◌, ◌≤◌, true, false, List, Option, None, Some}
use Rattle.anti_kind.specs.declared.call.Call.{Call}
use Rattle.anti_kind.specs.declared.call.Call.TheVariants.{Ship}
use Rattle.anti_kind.specs.declared.entry.Entry.{Entry}
use Rattle.anti_kind.specs.declared.asking.Asking.{Asking}
use Rattle.anti_kind.specs.declared.refusal.Refusal.{Refusal}
use Rattle.anti_kind.specs.declared.refusal.Refusal.TheVariants.{NotYet, Full, Spent}
use Rattle.anti_kind.specs.Objects.{Start, ready}
use Rattle.anti_kind.specs.Ports.{View, IsFull, IsSpent}
use Rattle.anti_kind.specs.Stored.{is_shipped}

-- the port has no such object, or the call is not ready after the history that was seen
abbrev pub IsUnready : Option Start → View → Call → Type 0
IsUnready None view call = Unit {0}
IsUnready (Some start) view call = ready start view.seen call ≡ false

-- the first parts of the versions from the first on, up to the one that is left, were shipped to the region
abbrev pub AreBrought : List Entry → ℕ → ℕ → ℕ → Type 0
AreBrought seen region first left = (v : ℕ) → first ≤ v → v < left → is_shipped seen region v 1 ≡ true

-- a version before the end is left only where its first part can't be shipped
abbrev pub IsLeft : Option Start → View → ℕ → ℕ → ℕ → Type 0
IsLeft start view region end left = left < end → IsUnready start view (Ship region left 1)

-- a call with this first part was asked for, and no stamp was left for it
pub record IsLate (start : Start) (seen : List Entry) (region version clock : ℕ) : Type 0 where
  pub asked : Asking
  pub ships : asked.call ≡ Ship region version 1
  pub spent : IsSpent start seen asked clock

-- After what was seen the first part of this version could be shipped, but for want of room, or of a stamp.
abbrev pub IsRefusedAt : Option Start → View → ℕ → ℕ → Refusal → Type 0
IsRefusedAt None view region version refusal = ⊥
IsRefusedAt (Some start) view region version NotYet = ⊥
IsRefusedAt (Some start) view region version (Full held owed need) = IsFull start view.seen (Ship region version 1) held owed need
IsRefusedAt (Some start) view region version (Spent clock) = IsLate start view.seen region version clock

-- It was so with some version.
abbrev pub IsRefused : Option Start → View → ℕ → Refusal → Type 0
IsRefused start view region refusal = (version : ℕ) × IsRefusedAt start view region version refusal
