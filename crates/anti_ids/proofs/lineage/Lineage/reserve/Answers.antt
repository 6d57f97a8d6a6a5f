use Rattle.std.proofs.Common.{◌≡◌, ◌+◌, ◌≤◌, subst, rules, vec_len, vec_capacity}
use Rattle.anti_ids.specs.Invariants.{IsLineage}
use Rattle.anti_ids.specs.inner.Held.{held_ids}
use Rattle.anti_ids.proofs.LeftLemmas.{lineage_held}
use Rattle.anti_ids.proofs.lineage.Lineage.reserve.Goals as goal

pub invariant_of-result : goal.invariant_of-result
invariant_of-result c =
    let is : held_ids c.self.inside.held ≡ c.in-Ok.ids.items = search rules in
    let room : vec_len c.in-Ok.ids + c.args.more ≤ vec_capacity c.in-Ok.ids = search rules in
    (subst IsLineage is (lineage_held c.self.inside.held c.self.invariant), room)
