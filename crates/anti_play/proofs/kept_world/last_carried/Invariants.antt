use Rattle.std.proofs.Common.{◌≡◌, take}
use Rattle.anti_kind.specs.declared.actor.Actor.TheVariants.{Carrier}
use Rattle.anti_kind.specs.Objects.{last_stamp}
use Rattle.anti_trace.specs.Traces.{entries_by}
use Rattle.anti_play.proofs.kept_world.last_carried.Given as goal

-- the last stamp so far
abbrev pub invariant-loop-entry : goal.invariant-loop-entry
invariant-loop-entry l = l.last ≡ last_stamp (entries_by (Carrier 0) (take l.entry-index l.entries))
