use Rattle.anti_work.specs.inner.Rounds.{IsAtWork}
use Rattle.anti_work.proofs.worker.Worker.rounds.Given as goal

abbrev pub invariant-loop : goal.invariant-loop
invariant-loop g l = IsAtWork l.app l.shared l.fn.self.number l.self
