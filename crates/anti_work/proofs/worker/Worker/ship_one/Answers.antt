use Rattle.std.proofs.Common.{◌≡◌, Bool, false, length, subst, map, ap, refl, ◌∙◌, arith}
use Rattle.std.specs.Prelude.{Ok, Err}
use Rattle.std.proofs.lemmas.List.{length-map}
use Rattle.anti_work.specs.inner.Rounds.{Anything, Comes, ShipRefused, ends_of}
use Rattle.anti_work.proofs.AnyCame.{any_of, any_then}
use Rattle.anti_work.proofs.Many.{still_worker}
use Rattle.anti_work.proofs.worker.Worker.ship_one.Goals as goal

pub draw_ship-requires-clause-of : goal.draw_ship-requires-clause-of
draw_ship-requires-clause-of g c = (c.whole_on-whole.ensures c.args.app.now).of

pub draw_ship-requires-clause-worker : goal.draw_ship-requires-clause-worker
draw_ship-requires-clause-worker g c =
    still_worker c.args.app.now c.args.shared.now c.args.self.now c.whole_on-whole.new.self Anything false (c.whole_on-whole.ensures c.args.app.now) c.requires.worker

pub draw_ship-requires-clause-at : goal.draw_ship-requires-clause-at
draw_ship-requires-clause-at g c =
    let many : length (map ends_of c.whole_on-whole.new.self.routes.items) ≡ length (map ends_of c.args.self.now.routes.items) = ap length (c.whole_on-whole.ensures c.args.app.now).routes in
    omega (arith, many, length-map c.whole_on-whole.new.self.routes.items ends_of, length-map c.args.self.now.routes.items ends_of, c.requires.at)

pub try_ship-requires-clause-of : goal.try_ship-requires-clause-of
try_ship-requires-clause-of g c = c.in-Ok.ensures.of

pub try_ship-requires-clause-worker : goal.try_ship-requires-clause-worker
try_ship-requires-clause-worker g c =
    still_worker c.args.app.now c.args.shared.now c.whole_on-whole.new.self c.draw_ship.new.self Anything _ c.in-Ok.ensures
    (still_worker c.args.app.now c.args.shared.now c.args.self.now c.whole_on-whole.new.self Anything false (c.whole_on-whole.ensures c.args.app.now) c.requires.worker)

pub try_ship-requires-clause-at : goal.try_ship-requires-clause-at
try_ship-requires-clause-at g c =
    let many : length (map ends_of c.draw_ship.new.self.routes.items) ≡ length (map ends_of c.args.self.now.routes.items) =
    ap length (c.in-Ok.ensures.routes ∙ (c.whole_on-whole.ensures c.args.app.now).routes) in
    omega (arith, many, length-map c.draw_ship.new.self.routes.items ends_of, length-map c.args.self.now.routes.items ends_of, c.requires.at)

pub returns-then-made : goal.returns-then-made
returns-then-made g c =
    subst (λ (made : Bool). Comes c.args.app.now c.args.shared.now c.args.self.now c.draw_ship.new.self Anything (Ok made)) c.if-made.true
    (any_then c.args.app.now c.args.shared.now c.args.self.now c.whole_on-whole.new.self c.draw_ship.new.self false refl (Ok c.in-Ok.made) (c.whole_on-whole.ensures c.args.app.now) c.in-Ok.ensures)

pub returns-in-Err : goal.returns-in-Err
returns-in-Err g c =
    any_then c.args.app.now c.args.shared.now c.args.self.now c.whole_on-whole.new.self c.draw_ship.new.self false refl (Err c.in-Err.stop) (c.whole_on-whole.ensures c.args.app.now) c.in-Err.ensures

pub returns-else-made : goal.returns-else-made
returns-else-made g c =
    any_then c.args.app.now c.args.shared.now c.args.self.now c.draw_ship.new.self c.try_ship.new.self c.in-Ok.made c.if-made.false c.try_ship.result
    (any_then c.args.app.now c.args.shared.now c.args.self.now c.whole_on-whole.new.self c.draw_ship.new.self false refl (Ok c.in-Ok.made) (c.whole_on-whole.ensures c.args.app.now) c.in-Ok.ensures)
    (any_of c.args.app.now c.args.shared.now c.draw_ship.new.self c.try_ship.new.self (ShipRefused c.args.app.now c.draw_ship.new.self.number (map ends_of c.draw_ship.new.self.routes.items) c.try_ship.new.self c.args.at) c.try_ship.result c.try_ship.ensures)
