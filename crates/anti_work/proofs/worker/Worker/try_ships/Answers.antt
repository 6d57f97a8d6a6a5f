use Rattle.std.proofs.Common.{◌≡◌, length, map, ap, arith}
use Rattle.std.proofs.lemmas.List.{length-map}
use Rattle.anti_work.specs.inner.Rounds.{FirstRefused, ShipRefused, ends_of}
use Rattle.anti_work.proofs.Loops.{ship_more, up_to}
use Rattle.anti_work.proofs.Many.{comes_first, comes_stops, still_worker}
use Rattle.anti_work.proofs.worker.Worker.try_ships.Goals as goal

pub loop-at-init : goal.loop-at-init
loop-at-init g c = comes_first c.args.app.now c.args.shared.now c.args.self.now (ShipRefused c.args.app.now c.args.self.now.number (map ends_of c.args.self.now.routes.items) c.args.self.now) c.requires.of

pub try_ship-requires-clause-of : goal.try_ship-requires-clause-of
try_ship-requires-clause-of g c = c.loop-at.invariant.of

pub try_ship-requires-clause-worker : goal.try_ship-requires-clause-worker
try_ship-requires-clause-worker g c =
    still_worker c.args.app.now c.args.shared.now c.args.self.now c.loop-at.self (FirstRefused (ShipRefused c.args.app.now c.args.self.now.number (map ends_of c.args.self.now.routes.items) c.loop-at.self) c.loop-at.at) c.loop-at.made c.loop-at.invariant c.requires.worker

pub try_ship-requires-clause-at : goal.try_ship-requires-clause-at
try_ship-requires-clause-at g c =
    let many : length (map ends_of c.loop-at.self.routes.items) ≡ length (map ends_of c.args.self.now.routes.items) = ap length c.loop-at.invariant.routes in
    omega (arith, many, length-map c.loop-at.self.routes.items ends_of, length-map c.args.self.now.routes.items ends_of, c.loop-at-test.true, c.len-at-end.ensures, c.args.self.now.routes.ok.0)

pub returns-in-Err : goal.returns-in-Err
returns-in-Err g c =
    comes_stops c.args.app.now c.args.shared.now c.args.self.now c.loop-at.self c.try_ship.new.self (FirstRefused (ShipRefused c.args.app.now c.args.self.now.number (map ends_of c.args.self.now.routes.items) c.loop-at.self) c.loop-at.at)
    (ShipRefused c.args.app.now c.loop-at.self.number (map ends_of c.loop-at.self.routes.items) c.try_ship.new.self c.loop-at.at) (FirstRefused (ShipRefused c.args.app.now c.args.self.now.number (map ends_of c.args.self.now.routes.items) c.try_ship.new.self) (length c.args.self.now.routes.items)) c.loop-at.made c.in-Err.stop c.loop-at.invariant c.in-Err.ensures

pub loop-at-preserved : goal.loop-at-preserved
loop-at-preserved g c =
    ship_more c.args.app.now c.args.shared.now c.args.self.now c.loop-at.self c.try_ship.new.self c.loop-at.made c.in-Ok.went c.either-made.result c.either-made.ensures c.loop-at.at c.loop-at.invariant c.in-Ok.ensures

pub returns : goal.returns
returns g c = up_to c.args.app.now c.args.shared.now c.args.self.now c.loop-at.self (ShipRefused c.args.app.now c.args.self.now.number (map ends_of c.args.self.now.routes.items) c.loop-at.self) (length c.args.self.now.routes.items) c.loop-at.at c.loop-at.made (omega (arith, c.loop-at-test.false, c.len-at-end.ensures, c.args.self.now.routes.ok.0)) c.loop-at.invariant
