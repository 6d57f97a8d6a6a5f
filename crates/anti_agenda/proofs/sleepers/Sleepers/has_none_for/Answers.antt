use Rattle.std.proofs.Common.{sym, subst, ◌∙◌}
use Rattle.anti_agenda.specs.inner.Waking.{NoneWaits}
use Rattle.anti_agenda.proofs.Marked.{none_marked}
use Rattle.anti_agenda.proofs.sleepers.Sleepers.has_none_for.Goals as goal

pub returns : goal.returns
returns c = λ none.
    subst (NoneWaits c.args.object c.args.brought) c.self.view_is
    (none_marked c.self.inside.set c.self.inside.marks c.args.object c.args.brought c.in-Some.first
    (sym c.first_brought.ensures ∙ c.in-Some.is) c.self.invariant (sym c.has.ensures ∙ c.if-has.false))
