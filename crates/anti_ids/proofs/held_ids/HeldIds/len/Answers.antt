use Rattle.anti_ids.proofs.LeftLemmas.{lineage_held}
use Rattle.anti_ids.proofs.held_ids.HeldIds.len.Goals as goal

pub returns-in-Short-clause-short : goal.returns-in-Short-clause-short
returns-in-Short-clause-short c = (lineage_held c.args.self.now c.requires).short

pub returns-in-Long-clause-short : goal.returns-in-Long-clause-short
returns-in-Long-clause-short c = (lineage_held c.args.self.now c.requires).short
