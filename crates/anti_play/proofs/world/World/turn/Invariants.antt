use Rattle.std.proofs.Common.{List, length}
use Rattle.std.specs.BTreeSet.{keys}
use Rattle.anti_kind.specs.declared.entry.Entry.{Entry}
use Rattle.anti_play.specs.inner.Attending.{Attends}
use Rattle.anti_play.specs.inner.Standing.{WorldStands}
use Rattle.anti_play.proofs.Turning.{StillStands}
use Rattle.anti_play.proofs.world.World.turn.Given as goal

-- no offer that was tried so far made an entry
abbrev pub invariant-loop-offer : goal.invariant-loop-offer
invariant-loop-offer l =
    (trace : List Entry) → WorldStands l.app l.fn.self trace → Attends l.app trace l.fn.agenda → StillStands l.app l.self l.agenda trace

abbrev pub decreases-loop-offer : goal.decreases-loop-offer
decreases-loop-offer l = length (keys l.agenda.awake)
