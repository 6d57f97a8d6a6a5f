use Rattle.std.specs.Prelude.{Ok}
use Rattle.anti_work.specs.inner.Rounds.{Anything, Comes}
use Rattle.anti_work.proofs.worker.Worker.draw_takes.Given as goal

abbrev pub invariant-loop-service : goal.invariant-loop-service
invariant-loop-service g l = Comes l.app l.shared l.initial.self l.self Anything (Ok l.made)
