use Rattle.std.proofs.Common.{◌≡◌, ◌≤◌, length, take}
use Rattle.anti_doctor.specs.inner.Missing.{is_missed, newest_of}
use Rattle.anti_doctor.proofs.missing.newest_missed.Given as goal

-- what is found of the places that are left is what is to be found
abbrev pub invariant-loop-left : goal.invariant-loop-left
invariant-loop-left l = record {
  within : l.left ≤ length l.places;
  same : newest_of (is_missed l.trace l.set l.shown) (take l.left l.places) ≡ newest_of (is_missed l.trace l.set l.shown) l.places;
}

abbrev pub decreases-loop-left : goal.decreases-loop-left
decreases-loop-left l = l.left
