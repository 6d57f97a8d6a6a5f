use Rattle.std.specs.Prelude.{Ok}
use Rattle.anti_work.specs.inner.Rounds.{Comes, FirstRefused, PullRefused}
use Rattle.anti_work.proofs.worker.Worker.try_pulls.Given as goal

-- the pulls of the subscriptions before this one were asked for
abbrev pub invariant-loop-sub : goal.invariant-loop-sub
invariant-loop-sub g l = Comes l.app l.shared l.initial.self l.self (FirstRefused (PullRefused l.app l.initial.self.number l.self) l.sub) (Ok l.made)
