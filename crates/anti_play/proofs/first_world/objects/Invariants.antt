use Rattle.std.proofs.Common.{◌-◌, ◌≤◌, length}
use Rattle.anti_app.specs.Objects.{object_count}
use Rattle.anti_trace.specs.inner.After.{AreFirst}
use Rattle.anti_play.proofs.first_world.objects.Given as goal

-- the objects so far
abbrev pub invariant-loop-objects : goal.invariant-loop-objects
invariant-loop-objects l = record { first : AreFirst l.app (length l.objects.items) l.objects.items; few : length l.objects.items ≤ object_count l.app }

abbrev pub decreases-loop-objects : goal.decreases-loop-objects
decreases-loop-objects l = object_count l.app - length l.objects.items
