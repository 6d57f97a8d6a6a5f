use Rattle.std.proofs.Common.{◌≡◌, ◌≤◌, List, length, ap, subst, arith, rules}
use Rattle.anti_ids.specs.declared.id.WriteId.{WriteId}
use Rattle.anti_ids.specs.declared.limits.TheConstants.{MOST_IDS}
use Rattle.anti_ids.specs.Ids.{with_ids}
use Rattle.anti_ids.specs.inner.Held.{held_ids}
use Rattle.anti_ids.proofs.LeftLemmas.{lineage_held}
use Rattle.anti_ids.proofs.held_ids.HeldIds.transfer.Goals as goal

pub returns-then-has_all-clause-fits : goal.returns-then-has_all-clause-fits
returns-then-has_all-clause-fits c =
    let held = held_ids c.args.self.now in
    let same : with_ids (held_ids c.args.other.now) held ≡ held = search rules in
    omega (arith, ap length same, (lineage_held c.args.self.now c.requires.lineage).short)

pub returns-clause-fits : goal.returns-clause-fits
returns-clause-fits c =
    let union = c.in_ok-self.ensures in
    subst (λ (x : List WriteId). length x ≤ MOST_IDS) union.ok (lineage_held c.in_ok-self.field-0 union.lineage).short
