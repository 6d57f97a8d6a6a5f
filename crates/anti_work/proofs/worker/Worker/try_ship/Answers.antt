use Rattle.std.proofs.Common.{sym, ap, ◌∙◌}
use Rattle.std.specs.Prelude.{Some, map}
use Rattle.std.proofs.lemmas.Option.{slice_get-get_or}
use Rattle.anti_kind.specs.declared.actor.Actor.TheVariants.{Carrier}
use Rattle.anti_kind.specs.declared.call.Call.TheVariants.{Ship}
use Rattle.anti_play.specs.Schedule.{asking_at}
use Rattle.anti_work.specs.inner.Rounds.{ShipRefused, ends_of}
use Rattle.anti_work.specs.inner.Working.{IsRefusedAt}
use Rattle.anti_work.proofs.Loops.{ship_as}
use Rattle.anti_work.proofs.Many.{comes_as}
use Rattle.anti_work.proofs.worker.Worker.try_ship.Goals as goal

pub returns : goal.returns
returns g c =
    comes_as c.args.app.now c.args.shared.now c.args.self.now c.carry.new.self
    (λ calls. IsRefusedAt c.args.app.now c.carry.new.self calls
    (asking_at calls c.index-route.result.now.store (Carrier c.args.self.now.number) 0 (Ship c.index-route.result.now.region c.index-route.result.now.next 1)))
    (ShipRefused c.args.app.now c.args.self.now.number (map ends_of c.args.self.now.routes.items) c.carry.new.self c.args.at) c.carry.result
    (record { of = c.carry.ensures.of; number = c.carry.ensures.number; routes = c.carry.ensures.routes; came = c.carry.ensures.tried c.args.app.now })
    (λ calls stands stays refused.
    ship_as c.args.app.now c.args.self.now c.carry.new.self calls c.args.at c.index-route.result.now stands
    (slice_get-get_or c.args.self.now.routes.items c.args.at c.index-route.result.now c.requires.at ∙ ap Some (sym c.index-route.ensures)) refused)
