-- How a further pass is split off each pass of a client.
use Rattle.std.specs.Prelude.{◌≡◌, ℕ, ◌-◌, ◌/◌, List, take}
use Rattle.std.specs.List.{AllZip}
use Rattle.anti_object.specs.declared.object.Object.{Object}
use Rattle.anti_shared.specs.Passes.{IsSplit, PassView, with_room}
use Rattle.anti_live.specs.inner.Changing.{HaveChanged}

-- what is left of a pass that was split
abbrev pub left_of : PassView Object → PassView Object
left_of was = with_room was ((was.room - 1) - (was.room - 1) / 2)

abbrev pub IsLeftOf : PassView Object → PassView Object → Type 0
IsLeftOf was left = left ≡ left_of was

abbrev pub IsSplitFrom : PassView Object → PassView Object → Type 0
IsSplitFrom was new = IsSplit was (left_of was) new

-- One was split off each of those before a place.
pub record AreSplitting (old rest new : List (PassView Object)) (at : ℕ) : Type 0 where
  pub rest_are : HaveChanged IsLeftOf old at rest
  pub new_are : AllZip IsSplitFrom (take at old) new
