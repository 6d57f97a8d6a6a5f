use Rattle.anti_play.specs.inner.Closing.{HasPlayed}
use Rattle.anti_play.proofs.world.World.step_all.Given as goal

-- the run of the choices so far
abbrev pub invariant-loop-before : goal.invariant-loop-before
invariant-loop-before l = HasPlayed l.app l.before l.self l.waits
