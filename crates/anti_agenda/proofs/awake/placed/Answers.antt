use Rattle.std.proofs.Common.{Option, Some, sym, ◌∙◌, subst}
use Rattle.anti_agenda.specs.declared.offer.Offer.{Offer}
use Rattle.anti_agenda.specs.inner.Front.{IsBeforeEach, IsPlaced}
use Rattle.anti_agenda.proofs.Fronts.{in_front}
use Rattle.anti_agenda.proofs.awake.placed.Goals as goal

pub returns-in-Less : goal.returns-in-Less
returns-in-Less c =
    let first = c.in-Some.first in
    let others = c.args.others.now in
    subst (λ (o : Option Offer). IsPlaced o c.args.offer others (Some c.args.offer) (Some first)) (sym c.in-Some.is)
    (in_front first c.args.offer others (subst (λ (o : Option Offer). IsBeforeEach o others) c.in-Some.is c.requires)
    (sym c.cmp.ensures ∙ c.in-Less.is))
