use Rattle.std.proofs.Common.{List}
use Rattle.anti_kind.specs.declared.entry.Entry.{Entry}
use Rattle.anti_play.specs.inner.Standing.{WorldStands}
use Rattle.anti_play.proofs.Reached.{places_left}
use Rattle.anti_play.proofs.Turning.{IsUnderWay}
use Rattle.anti_play.proofs.world.World.finish.Given as goal

-- each turn so far has made an entry
abbrev pub invariant-loop-agenda : goal.invariant-loop-agenda
invariant-loop-agenda l = (trace : List Entry) → WorldStands l.app l.fn.self trace → IsUnderWay l.app trace l.self l.agenda

abbrev pub decreases-loop-agenda : goal.decreases-loop-agenda
decreases-loop-agenda l = places_left l.self
