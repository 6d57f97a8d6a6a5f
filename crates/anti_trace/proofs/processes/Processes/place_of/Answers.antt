use Rattle.std.proofs.Common.{◌≡◌, sym, ap, ◌∙◌}
use Rattle.std.specs.Prelude.{position}
use Rattle.anti_kind.specs.declared.actor.Actor.TheVariants.{Process as Acting}
use Rattle.anti_kind.specs.declared.actor.Birth.{Birth}
use Rattle.anti_trace.specs.inner.Living.{born_at, is_named}
use Rattle.anti_trace.proofs.processes.Processes.place_of.Goals as goal

pub returns-in-Process : goal.returns-in-Process
returns-in-Process c = λ b is.
    let both : Acting c.in-Process.birth ≡ Acting b = sym c.in-Process.is ∙ is in
    let same : c.in-Process.birth ≡ b = cc in
    c.find.ensures ∙ ap (λ (x : Birth). position (is_named x) (born_at c.args.self.now.at.items x.object)) same

pub returns-in_default : goal.returns-in_default
returns-in_default c = λ b is. absurd (c.in_default.not-Process b is)
