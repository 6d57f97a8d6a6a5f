use Rattle.std.proofs.Common.{arith}
use Rattle.std.proofs.lemmas.Grind.{common_steps}
use Rattle.anti_ids.proofs.held_ids.HeldIds.copy.Goals as goal

pub returns-then-is_empty-clause-ids : goal.returns-then-is_empty-clause-ids
returns-then-is_empty-clause-ids c = grind (arith, common_steps)
