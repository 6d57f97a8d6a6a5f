use Rattle.std.proofs.Common.{◌≡◌, subst, rules}
use Rattle.anti_ids.specs.Invariants.{IsLineage}
use Rattle.anti_ids.specs.Ids.{without_id}
use Rattle.anti_ids.proofs.IdLemmas.{lineage_without}
use Rattle.anti_ids.proofs.held_ids.remove.Goals as goal

pub returns-clause-lineage : goal.returns-clause-lineage
returns-clause-lineage c =
    let is : without_id c.args.id.now c.args.ids.now.items ≡ c.remove.new.self.items = search rules in
    subst IsLineage is (lineage_without c.args.id.now c.args.ids.now.items c.requires)
