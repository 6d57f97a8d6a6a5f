use Rattle.std.specs.Prelude.{Ok}
use Rattle.anti_work.specs.inner.Rounds.{Comes, FirstRefused, TakeRefused}
use Rattle.anti_work.proofs.worker.Worker.try_takes.Given as goal

-- the deliveries to the services before this one were asked for
abbrev pub invariant-loop-service : goal.invariant-loop-service
invariant-loop-service g l = Comes l.app l.shared l.initial.self l.self (FirstRefused (TakeRefused l.app l.initial.self.number l.self) l.service) (Ok l.made)
