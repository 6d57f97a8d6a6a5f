use Rattle.std.proofs.Common.{◌≡◌, ◌⊎◌, ◌↔◌, Contains, subst}
use Rattle.std.specs.BTreeSet.{BTreeSet, keys}
use Rattle.anti_agenda.specs.declared.offer.Offer.{Offer}
use Rattle.anti_agenda.specs.inner.Front.{with_first}
use Rattle.anti_agenda.proofs.Fronts.{before_same, still_before, with_one}
use Rattle.anti_agenda.proofs.awake.Awake.insert.Goals as goal

pub invariant_of-self : goal.invariant_of-self
invariant_of-self c = before_same c.self.inside.first c.self.inside.others c.add.new.others c.in_err-add.ensures.err c.self.invariant

pub invariant_of-self-2 : goal.invariant_of-self-2
invariant_of-self-2 c =
    still_before c.self.inside.first c.args.offer c.self.inside.others c.add.new.others c.placed-front.result.0 c.placed-front.result.1
    c.placed-front.ensures c.in_ok-add.ensures.more

pub returns-clause-more : goal.returns-clause-more
returns-clause-more c = λ other.
    subst (λ (all : BTreeSet Offer). Contains (keys (with_first c.placed-front.result.0 c.add.new.others)) other ↔ ((other ≡ c.args.offer) ⊎ Contains (keys all) other))
    c.self.view_is
    (with_one c.self.inside.first c.args.offer c.self.inside.others c.add.new.others c.placed-front.result.0 c.placed-front.result.1
    c.placed-front.ensures c.in_ok-add.ensures.more other)
