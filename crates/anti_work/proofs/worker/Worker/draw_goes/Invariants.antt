use Rattle.std.specs.Prelude.{Ok}
use Rattle.anti_work.specs.inner.Rounds.{Anything, Comes}
use Rattle.anti_work.proofs.worker.Worker.draw_goes.Given as goal

abbrev pub invariant-loop-i : goal.invariant-loop-i
invariant-loop-i g l = Comes l.app l.shared l.initial.self l.self Anything (Ok l.made)
