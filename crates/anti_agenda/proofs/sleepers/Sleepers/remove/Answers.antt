use Rattle.std.proofs.Common.{◌≡◌, ◌↔◌, Contains, subst}
use Rattle.std.specs.BTreeSet.{BTreeSet, keys}
use Rattle.anti_agenda.specs.declared.offer.Sleeper.{Sleeper}
use Rattle.anti_agenda.proofs.KeySets.{without_key}
use Rattle.anti_agenda.proofs.Orders.{sleepers_exact, sleepers_total}
use Rattle.anti_agenda.proofs.sleepers.Sleepers.remove.Goals as goal

pub invariant_of-self : goal.invariant_of-self
invariant_of-self c = λ one is.
    c.self.invariant one
    ((without_key sleepers_total sleepers_exact c.self.inside.set c.remove.new.self c.args.one c.remove.ensures.updates one).0 is).0

pub returns-clause-others : goal.returns-clause-others
returns-clause-others c = λ other.
    subst (λ (s : BTreeSet Sleeper). Contains (keys c.remove.new.self) other ↔ (Contains (keys s) other × (other ≡ c.args.one → ⊥))) c.self.view_is
    (without_key sleepers_total sleepers_exact c.self.inside.set c.remove.new.self c.args.one c.remove.ensures.updates other)
