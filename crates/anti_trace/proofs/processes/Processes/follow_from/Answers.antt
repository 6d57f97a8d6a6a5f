use Rattle.std.proofs.Common.{◌≡◌, sym, ◌∙◌}
use Rattle.anti_kind.specs.declared.actor.Actor.TheVariants.{Carrier, Process as Acting, Newborn}
use Rattle.anti_trace.proofs.Followed.{carried_are, gets_last}
use Rattle.anti_trace.proofs.processes.Processes.follow_from.Goals as goal

pub feed-requires-clause-found : goal.feed-requires-clause-found
feed-requires-clause-found c = sym (c.requires.place c.in-Process.birth c.in-Process.is) ∙ c.in-Some.is

pub bear-requires-clause-unborn : goal.bear-requires-clause-unborn
bear-requires-clause-unborn c = sym (c.requires.place c.in-Process.birth c.in-Process.is) ∙ c.in-None.is

pub returns-in-Carrier : goal.returns-in-Carrier
returns-in-Carrier c = λ before after legal are. carried_are c.args.app.now c.args.self.now.at.items before _ are c.args.entry.now (gets_last c.args.app.now before c.args.entry.now)
    (λ b is. let both : Carrier c.in-Carrier.field-0 ≡ Acting b = sym c.in-Carrier.is ∙ is in absurd (cc))

pub returns-in-Newborn : goal.returns-in-Newborn
returns-in-Newborn c = λ before after legal are. carried_are c.args.app.now c.args.self.now.at.items before _ are c.args.entry.now (gets_last c.args.app.now before c.args.entry.now)
    (λ b is. let both : Newborn ≡ Acting b = sym c.in-Newborn.is ∙ is in absurd (cc))
