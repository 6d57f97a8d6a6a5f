use Rattle.anti_play.proofs.NextEntry.{outcome_none, outcome_refused}
use Rattle.anti_play.proofs.world.World.next_entry.Goals as goal

pub returns-in_default-clause-outcome : goal.returns-in_default-clause-outcome
returns-in_default-clause-outcome c = λ app trace sound s clock.
    outcome_none app sound trace s.run c.args.asking clock c.deref.result.now c.args.self.now.objects.items s.objects c.deref.ensures.value c.in_default.ensures.lookup.3

pub returns-in-Err-clause-outcome : goal.returns-in-Err-clause-outcome
returns-in-Err-clause-outcome c = λ app trace sound s clock.
    outcome_refused app sound trace s.run c.args.asking clock c.deref.result.now c.args.self.now.objects.items s.objects c.deref.ensures.value
    c.in-Some.recorded.now c.in-Some.ensures.lookup.1 c.in-Some.ensures.lookup.3.0 c.in-Err.refusal c.in-Err.ensures.refused
