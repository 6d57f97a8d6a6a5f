use Rattle.std.proofs.Common.{◌≡◌, ◌++◌, [], All, length, map, reverse}
use Rattle.anti_object.specs.Standing.{ObjectAt}
use Rattle.anti_play.specs.inner.Closing.{at_first}
use Rattle.anti_play.proofs.first_world.all_recorded.Given as goal

-- those that are left, and then those that were taken, are those that there were
abbrev pub invariant-loop-object : goal.invariant-loop-object
invariant-loop-object l = record {
  left : All (λ object. ObjectAt object []) l.objects.items;
  all : map at_first l.objects.items ++ reverse l.recorded.items ≡ map at_first l.fn.objects.items;
}

abbrev pub decreases-loop-object : goal.decreases-loop-object
decreases-loop-object l = length l.objects.items
