use Rattle.std.proofs.Common.{ap, refl, sym, ◌∙◌}
use Rattle.std.specs.Prelude.{option_and_then}
use Rattle.anti_kind.specs.declared.actor.Actor.TheVariants.{Process as Acting}
use Rattle.anti_trace.specs.inner.Living.{lists}
use Rattle.anti_trace.proofs.Followed.{found_there}
use Rattle.anti_play.specs.Schedule.{asking_at, made_at}
use Rattle.anti_play.proofs.GoOn.{absent_none, makes_none, next_asks}
use Rattle.anti_play.proofs.Passing.{on_none}
use Rattle.anti_play.proofs.world.World.asks_at.Goals as goal

pub find-requires : goal.find-requires
find-requires c = record { app = c.requires.app; trace = c.requires.trace; legal = c.requires.stands.run; are = c.requires.stands.processes }

pub get-requires-clause-object : goal.get-requires-clause-object
get-requires-clause-object c = found_there (lists c.args.self.now.processes) c.args.birth c.in_ok-at.at (sym c.find.ensures ∙ c.in_ok-at.was)

pub returns-clause-some : goal.returns-clause-some
returns-clause-some c = λ app trace sound s. (
  asking_at trace c.in_ok-asked.asked.object (Acting c.args.birth) c.in_ok-asked.asked.span c.in_ok-asked.asked.call.now,
  next_asks app c.args.self.now trace c.args.birth c.in_ok-at.at c.get.result.now s (record { found = sym c.find.ensures ∙ c.in_ok-at.was; is = c.get.ensures })
      c.in_ok-asked.asked.object c.in_ok-asked.asked.span c.in_ok-asked.asked.call.now c.in_ok-asked.ensures.going (c.in_ok-asked.ensures.some app),
  refl,
)

pub returns-in_err-at-clause-none : goal.returns-in_err-at-clause-none
returns-in_err-at-clause-none c = λ app trace sound s. on_none c.from_residual.result
    (ap (option_and_then (made_at app trace)) (absent_none app c.args.self.now trace c.args.birth s (sym c.find.ensures ∙ c.in_err-at.was)))

pub returns-in_err-asked-clause-none : goal.returns-in_err-asked-clause-none
returns-in_err-asked-clause-none c = λ app trace sound s. on_none c.from_residual-in_err-asked.result
    (makes_none app c.args.self.now trace c.args.birth c.in_ok-at.at c.get.result.now s (record { found = sym c.find.ensures ∙ c.in_ok-at.was; is = c.get.ensures }) sound
    (c.in_err-asked.ensures.none app))
