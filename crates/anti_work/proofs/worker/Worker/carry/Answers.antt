-- The routes tell of what was shipped, and where no call was made it was refused.
use Rattle.std.proofs.Common.{Option, ℕ, refl, subst, arith}
use Rattle.anti_work.specs.inner.Shipping.{HaveNoted}
use Rattle.anti_work.proofs.Carried.{carried_stands, carry_past, carry_refused}
use Rattle.anti_work.proofs.Noted.{noted_ends}
use Rattle.anti_work.proofs.worker.Worker.carry.Goals as goal

pub returns-in-Ok-clause-tried : goal.returns-in-Ok-clause-tried
returns-in-Ok-clause-tried g c app calls stands =
    carried_stands app c.args.self.now calls stands c.args.object c.args.call c.requires.carries
    (record c.args.self.now { passes = c.ask.new.passes; clock = c.in-Made.stamp; routes = c.note.new.routes })
    c.in-Made.place c.in-Made.stamp c.in-Made.reply c.in-Made.ensures.asked refl refl refl
    (subst (λ (first : Option (ℕ × ℕ)). HaveNoted c.args.object first c.args.self.now.routes.items c.note.new.routes.items) c.first_part-first.ensures c.in-Ok.ensures)

pub returns-in-Ok-clause-routes : goal.returns-in-Ok-clause-routes
returns-in-Ok-clause-routes g c = noted_ends c.args.object c.first_part-first.result c.args.self.now.routes.items c.note.new.routes.items c.in-Ok.ensures

pub returns-in-Refused-clause-tried : goal.returns-in-Refused-clause-tried
returns-in-Refused-clause-tried g c app calls stands =
    carry_refused app c.args.self.now calls stands c.args.object c.args.call (record c.args.self.now { passes = c.ask.new.passes }) _
    c.in-Refused.ensures.asked refl refl refl refl

pub returns-then-object-shared-clause-tried : goal.returns-then-object-shared-clause-tried
returns-then-object-shared-clause-tried g c app calls stands =
    carry_past app c.args.self.now calls stands c.args.object c.args.call
    (omega (arith, c.if-object-shared.true, c.requires.of.count, stands.knows.are.count))
