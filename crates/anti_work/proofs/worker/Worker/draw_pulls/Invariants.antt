use Rattle.std.specs.Prelude.{Ok}
use Rattle.anti_work.specs.inner.Rounds.{Anything, Comes}
use Rattle.anti_work.proofs.worker.Worker.draw_pulls.Given as goal

abbrev pub invariant-loop-sub : goal.invariant-loop-sub
invariant-loop-sub g l = Comes l.app l.shared l.initial.self l.self Anything (Ok l.made)
