use Rattle.std.proofs.Common.{◌≡◌, ◌⊎◌, ◌↔◌, Contains, subst}
use Rattle.std.specs.BTreeSet.{BTreeSet, keys}
use Rattle.anti_agenda.specs.declared.offer.Sleeper.{Sleeper}
use Rattle.anti_agenda.proofs.KeySets.{with_key}
use Rattle.anti_agenda.proofs.Marked.{marked_with}
use Rattle.anti_agenda.proofs.Orders.{sleepers_exact, sleepers_total}
use Rattle.anti_agenda.proofs.sleepers.Sleepers.insert.Goals as goal

pub invariant_of-self-2 : goal.invariant_of-self-2
invariant_of-self-2 c =
    marked_with c.self.inside.set c.insert.new.self c.self.inside.marks c.set.new.self c.args.one c.self.invariant
    c.in_ok-insert.ensures.updates c.set.ensures

pub returns-clause-more : goal.returns-clause-more
returns-clause-more c = λ other.
    subst (λ (s : BTreeSet Sleeper). Contains (keys c.insert.new.self) other ↔ ((other ≡ c.args.one) ⊎ Contains (keys s) other)) c.self.view_is
    (with_key sleepers_total sleepers_exact c.self.inside.set c.insert.new.self c.args.one c.in_ok-insert.ensures.updates other)
