use Rattle.std.proofs.Common.{IfSome, refl, sym, subst}
use Rattle.anti_app.specs.declared.app.Choice.{Choice}
use Rattle.anti_play.specs.Schedule.{asked, bearing}
use Rattle.anti_play.specs.inner.Choosing.{AsksAt, AsksFor}
use Rattle.anti_play.proofs.world.World.object_of.Goals as goal

pub returns-in-Bears-clause-some : goal.returns-in-Bears-clause-some
returns-in-Bears-clause-some c = λ trace s.
    (bearing trace c.in-Bears.object c.in-Bears.field-1, (subst (AsksFor c.args.app.now c.args.choice.now) c.in-Bears.is c.of.ensures).1.asks trace, refl)

pub returns-clause-some : goal.returns-clause-some
returns-clause-some c = λ trace s.
    subst (λ (x : Choice). IfSome c.asks_at.result (AsksAt (asked c.args.app.now trace x))) (sym (subst (AsksFor c.args.app.now c.args.choice.now) c.in-GoesOn.is c.of.ensures))
    (c.asks_at.ensures.some c.args.app.now trace c.requires.sound s)
