use Rattle.std.specs.Prelude.{Ok, map}
use Rattle.anti_work.specs.inner.Rounds.{Comes, FirstRefused, ShipRefused, ends_of}
use Rattle.anti_work.proofs.worker.Worker.try_ships.Given as goal

-- the shipments on the routes before this one were asked for
abbrev pub invariant-loop-at : goal.invariant-loop-at
invariant-loop-at g l = Comes l.app l.shared l.initial.self l.self (FirstRefused (ShipRefused l.app l.initial.self.number (map ends_of l.initial.self.routes.items) l.self) l.at) (Ok l.made)
