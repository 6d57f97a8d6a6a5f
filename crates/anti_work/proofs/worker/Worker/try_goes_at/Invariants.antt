use Rattle.std.specs.Prelude.{Ok}
use Rattle.anti_work.specs.inner.Rounds.{Comes, FirstRefused, GoRefused}
use Rattle.anti_work.proofs.worker.Worker.try_goes_at.Given as goal

-- the next calls of the processes before this one were asked for
abbrev pub invariant-loop-at : goal.invariant-loop-at
invariant-loop-at g l = Comes l.app l.shared l.initial.self l.self (FirstRefused (GoRefused l.app l.object l.self) l.at) (Ok l.made)
