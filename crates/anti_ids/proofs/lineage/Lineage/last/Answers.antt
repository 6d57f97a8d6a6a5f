use Rattle.std.proofs.Common.{subst}
use Rattle.anti_ids.specs.Invariants.{IsLineage}
use Rattle.anti_ids.proofs.LeftLemmas.{lineage_held}
use Rattle.anti_ids.proofs.lineage.Lineage.last.Goals as goal

pub returns-clause-lineage : goal.returns-clause-lineage
returns-clause-lineage c = subst IsLineage c.self.view_is (lineage_held c.self.inside.held c.self.invariant)
