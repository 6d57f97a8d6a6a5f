use Rattle.anti_ids.proofs.LeftLemmas.{lineage_held}
use Rattle.anti_ids.proofs.held_ids.HeldIds.ids.Goals as goal

pub returns-clause-lineage : goal.returns-clause-lineage
returns-clause-lineage c = lineage_held c.args.self.now c.requires
