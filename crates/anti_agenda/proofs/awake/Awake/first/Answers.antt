use Rattle.std.proofs.Common.{Option, Some, sym, ap, ◌∙◌, subst}
use Rattle.std.specs.BTreeSet.{BTreeSet}
use Rattle.anti_agenda.specs.declared.offer.Offer.{Offer}
use Rattle.anti_agenda.specs.inner.Front.{IsBeforeEach, with_first}
use Rattle.anti_agenda.specs.inner.Waking.{IsFirstOf}
use Rattle.anti_agenda.proofs.Fronts.{front_first}
use Rattle.anti_agenda.proofs.awake.Awake.first.Goals as goal

pub returns-in-Some : goal.returns-in-Some
returns-in-Some c =
    let first = c.in-Some.first in
    let others = c.self.inside.others in
    subst (λ (all : BTreeSet Offer). IsFirstOf all (Some first))
    (ap (λ (o : Option Offer). with_first o others) (sym c.in-Some.is) ∙ c.self.view_is)
    (front_first first others (subst (λ (o : Option Offer). IsBeforeEach o others) c.in-Some.is c.self.invariant))
