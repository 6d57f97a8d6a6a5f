use Rattle.anti_work.specs.inner.Rounds.{HasAdded}
use Rattle.anti_work.proofs.ships.add_routes.Given as goal

-- the routes to the regions before this one were added
abbrev pub invariant-loop-at : goal.invariant-loop-at
invariant-loop-at l = HasAdded l.store l.regions l.at l.initial.routes.items l.routes.items
