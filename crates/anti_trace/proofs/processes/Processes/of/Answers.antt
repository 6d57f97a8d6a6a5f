use Rattle.std.proofs.Common.{ℕ, sym, ◌∙◌, subst}
use Rattle.std.specs.Prelude.{Option}
use Rattle.anti_kind.specs.declared.actor.Actor.TheVariants.{Process as Acting}
use Rattle.anti_trace.specs.Traces.{entries_by}
use Rattle.anti_trace.specs.inner.Living.{Lives, born_at}
use Rattle.anti_trace.proofs.Followed.{found_lives, found_there}
use Rattle.anti_trace.proofs.processes.Processes.of.Goals as goal

pub get-requires-clause-object : goal.get-requires-clause-object
get-requires-clause-object c = found_there c.args.self.now.at.items c.args.birth c.in-Some.at (sym c.requires ∙ c.in-Some.is)

pub returns-in-Some : goal.returns-in-Some
returns-in-Some c = λ app trace are.
    found_lives app c.args.self.now.at.items trace are c.args.birth c.in-Some.at (sym c.requires ∙ c.in-Some.is) c.get.result.now c.get.ensures

pub returns-in-None : goal.returns-in-None
returns-in-None c = λ app trace are.
    let b = c.args.birth in
    let here = born_at c.args.self.now.at.items b.object in
    subst (λ (o : Option ℕ). Lives app trace here o (entries_by (Acting b) trace)) (sym c.requires ∙ c.in-None.is) (are.live b)
