use Rattle.std.proofs.Common.{List}
use Rattle.anti_kind.specs.declared.entry.Entry.{Entry}
use Rattle.anti_play.specs.inner.Attending.{Below, IsGoAt, Wakes}
use Rattle.anti_play.specs.inner.Standing.{WorldStands}
use Rattle.anti_play.proofs.world.World.wake_objects.Given as goal

-- the processes of the objects so far are awake, or past
abbrev pub invariant-loop-object : goal.invariant-loop-object
invariant-loop-object l = (trace : List Entry) → WorldStands l.app l.self trace → Wakes l.app trace (Below (IsGoAt trace) l.object) l.fn.agenda l.agenda
