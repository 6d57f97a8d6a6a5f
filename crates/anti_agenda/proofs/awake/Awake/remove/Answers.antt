use Rattle.std.proofs.Common.{◌≡◌, ◌↔◌, Contains, Option, Some, sym, ap, ◌∙◌, subst}
use Rattle.std.specs.BTreeSet.{BTreeSet, keys}
use Rattle.std.proofs.lemmas.Bool.{true≢false}
use Rattle.anti_agenda.specs.declared.offer.Offer.{Offer}
use Rattle.anti_agenda.specs.inner.Front.{IsBeforeEach, with_first}
use Rattle.anti_agenda.proofs.Fronts.{before_less, without_first, without_one}
use Rattle.anti_agenda.proofs.KeySets.{without_key}
use Rattle.anti_agenda.proofs.Orders.{offers_exact, offers_total}
use Rattle.anti_agenda.proofs.awake.Awake.remove.Goals as goal

pub returns-then-is_one-clause-others : goal.returns-then-is_one-clause-others
returns-then-is_one-clause-others c = λ other.
    let offer = c.args.offer in
    let others = c.self.inside.others in
    let is : c.self.inside.first ≡ Some offer = c.is_one.ensures.0 c.if-is_one.true in
    subst (λ (all : BTreeSet Offer). Contains (keys others) other ↔ (Contains (keys all) other × (other ≡ offer → ⊥)))
    (ap (λ (o : Option Offer). with_first o others) (sym is) ∙ c.self.view_is)
    (without_first offer others (subst (λ (o : Option Offer). IsBeforeEach o others) is c.self.invariant) other)

pub invariant_of-self-2 : goal.invariant_of-self-2
invariant_of-self-2 c =
    before_less c.self.inside.first c.self.inside.others c.remove.new.self c.args.offer
    (λ is. true≢false (sym (c.is_one.ensures.1 is) ∙ c.if-is_one.false))
    (without_key offers_total offers_exact c.self.inside.others c.remove.new.self c.args.offer c.remove.ensures.updates) c.self.invariant

pub returns-clause-others : goal.returns-clause-others
returns-clause-others c = λ other.
    subst (λ (all : BTreeSet Offer). Contains (keys (with_first c.self.inside.first c.remove.new.self)) other ↔ (Contains (keys all) other × (other ≡ c.args.offer → ⊥)))
    c.self.view_is
    (without_one c.self.inside.first c.self.inside.others c.remove.new.self c.args.offer
    (λ is. true≢false (sym (c.is_one.ensures.1 is) ∙ c.if-is_one.false))
    (without_key offers_total offers_exact c.self.inside.others c.remove.new.self c.args.offer c.remove.ensures.updates) other)
