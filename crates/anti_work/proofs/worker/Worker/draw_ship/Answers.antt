use Rattle.std.proofs.Common.{◌+◌}
use Rattle.anti_kind.specs.declared.actor.Actor.TheVariants.{Carrier}
use Rattle.anti_kind.specs.declared.call.Call.TheVariants.{Again, Ship}
use Rattle.anti_play.specs.Schedule.{asking_at}
use Rattle.anti_work.specs.inner.Working.{IsRefusedAt}
use Rattle.anti_work.proofs.AnyCame.{any_itself, any_of}
use Rattle.anti_work.proofs.worker.Worker.draw_ship.Goals as goal

pub returns-then-behind-eq0 : goal.returns-then-behind-eq0
returns-then-behind-eq0 g c = any_itself c.args.app.now c.args.shared.now c.args.self.now c.requires.of

pub returns-then-repeats : goal.returns-then-repeats
returns-then-repeats g c =
    any_of c.args.app.now c.args.shared.now c.args.self.now c.carry.new.self
    (λ calls. IsRefusedAt c.args.app.now c.carry.new.self calls (asking_at calls c.index-route.result.now.store (Carrier c.args.self.now.number) 0 (Again c.index-route.result.now.region c.from-behind.result (c.behind-part.result + 1)))) c.carry.result
    (record { of = c.carry.ensures.of; number = c.carry.ensures.number; routes = c.carry.ensures.routes; came = c.carry.ensures.tried c.args.app.now })

pub returns : goal.returns
returns g c =
    any_of c.args.app.now c.args.shared.now c.args.self.now c.carry-2.new.self
    (λ calls. IsRefusedAt c.args.app.now c.carry-2.new.self calls (asking_at calls c.index-route.result.now.store (Carrier c.args.self.now.number) 0 (Ship c.index-route.result.now.region c.saturating_add-version.result (c.behind-part.result + 1)))) c.carry-2.result
    (record { of = c.carry-2.ensures.of; number = c.carry-2.ensures.number; routes = c.carry-2.ensures.routes; came = c.carry-2.ensures.tried c.args.app.now })
