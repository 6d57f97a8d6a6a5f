use Rattle.std.proofs.Common.{◌≡◌, length, map, ap, arith}
use Rattle.std.proofs.lemmas.List.{length-map}
use Rattle.anti_work.specs.inner.Rounds.{Anything, ends_of}
use Rattle.anti_work.proofs.AnyCame.{any_itself, any_more, any_stops}
use Rattle.anti_work.proofs.Many.{still_worker}
use Rattle.anti_work.proofs.worker.Worker.draw_ships.Goals as goal

pub loop-at-init : goal.loop-at-init
loop-at-init g c = any_itself c.args.app.now c.args.shared.now c.args.self.now c.requires.of

pub ship_one-requires-clause-of : goal.ship_one-requires-clause-of
ship_one-requires-clause-of g c = c.loop-at.invariant.of

pub ship_one-requires-clause-worker : goal.ship_one-requires-clause-worker
ship_one-requires-clause-worker g c =
    still_worker c.args.app.now c.args.shared.now c.args.self.now c.loop-at.self Anything c.loop-at.made c.loop-at.invariant c.requires.worker

pub ship_one-requires-clause-at : goal.ship_one-requires-clause-at
ship_one-requires-clause-at g c =
    let many : length (map ends_of c.loop-at.self.routes.items) ≡ length (map ends_of c.args.self.now.routes.items) = ap length c.loop-at.invariant.routes in
    omega (arith, many, length-map c.loop-at.self.routes.items ends_of, length-map c.args.self.now.routes.items ends_of, c.loop-at-test.true, c.len-at-end.ensures, c.args.self.now.routes.ok.0)

pub returns-in-Err : goal.returns-in-Err
returns-in-Err g c =
    any_stops c.args.app.now c.args.shared.now c.args.self.now c.loop-at.self c.ship_one.new.self c.loop-at.made c.in-Err.stop c.loop-at.invariant c.in-Err.ensures

pub loop-at-preserved : goal.loop-at-preserved
loop-at-preserved g c =
    any_more c.args.app.now c.args.shared.now c.args.self.now c.loop-at.self c.ship_one.new.self c.loop-at.made c.in-Ok.went c.either-made.result c.either-made.ensures
    c.loop-at.invariant c.in-Ok.ensures

pub returns : goal.returns
returns g c = c.loop-at.invariant
