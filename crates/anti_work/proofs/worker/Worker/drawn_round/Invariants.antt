use Rattle.std.specs.Prelude.{Ok}
use Rattle.anti_work.specs.inner.Rounds.{Anything, Comes}
use Rattle.anti_work.proofs.worker.Worker.drawn_round.Given as goal

abbrev pub invariant-loop-kind : goal.invariant-loop-kind
invariant-loop-kind g l = Comes l.app l.shared l.initial.self l.self Anything (Ok l.made)
