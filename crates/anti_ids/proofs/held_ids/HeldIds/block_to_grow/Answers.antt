use Rattle.std.proofs.Common.{◌≡◌, subst, rules}
use Rattle.anti_ids.specs.Invariants.{IsLineage}
use Rattle.anti_ids.specs.inner.Held.{held_ids}
use Rattle.anti_ids.proofs.LeftLemmas.{lineage_held}
use Rattle.anti_ids.proofs.held_ids.HeldIds.block_to_grow.Goals as goal

pub returns-in-Ok-clause-lineage : goal.returns-in-Ok-clause-lineage
returns-in-Ok-clause-lineage c =
    let is : held_ids c.args.self.now ≡ c.in-Ok.block = search rules in
    subst IsLineage is (lineage_held c.args.self.now c.requires)
