use Rattle.std.proofs.Common.{arith}
use Rattle.std.proofs.lemmas.Grind.{common_steps}
use Rattle.anti_past.proofs.holds.stated.Goals as goal

pub lineage-requires : goal.lineage-requires
lineage-requires c = grind (arith, common_steps)
