use Rattle.std.proofs.Common.{◌≡◌, Some, map, take}
use Rattle.anti_past.specs.inner.Marks.{place_known}
use Rattle.anti_order.proofs.marks.places_of.Given as goal

-- the places so far are those of the marks so far
abbrev pub invariant-loop-mark : goal.invariant-loop-mark
invariant-loop-mark l = map Some l.places.items ≡ map (place_known l.known) (take l.mark-index l.marks)
