use Rattle.std.specs.Prelude.{Ok}
use Rattle.anti_work.specs.inner.Rounds.{Comes, FirstRefused, GoesRefused}
use Rattle.anti_work.proofs.worker.Worker.try_goes.Given as goal

-- the next calls of the processes that were born at the objects before this one were asked for
abbrev pub invariant-loop-object : goal.invariant-loop-object
invariant-loop-object g l = Comes l.app l.shared l.initial.self l.self (FirstRefused (GoesRefused l.app l.self) l.object) (Ok l.made)
