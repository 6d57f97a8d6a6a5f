use Rattle.std.proofs.Common.{arith}
use Rattle.std.proofs.lemmas.Grind.{common_steps}
use Rattle.anti_edge.proofs.memory_source.MemorySourceSource.read.Goals as goal

pub returns-clause-rest : goal.returns-clause-rest
returns-clause-rest c = grind (arith, common_steps)

pub returns-clause-end : goal.returns-clause-end
returns-clause-end c = grind (arith, common_steps)
