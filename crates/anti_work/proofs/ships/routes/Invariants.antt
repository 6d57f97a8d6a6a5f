use Rattle.anti_work.specs.inner.Rounds.{HasRoutesTo}
use Rattle.anti_work.proofs.ships.routes.Given as goal

-- those from the stores before this one were added
abbrev pub invariant-loop-store : goal.invariant-loop-store
invariant-loop-store l = HasRoutesTo l.app l.number l.store l.routes.items
