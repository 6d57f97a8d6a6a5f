use Rattle.std.proofs.Common.{arith}
use Rattle.std.proofs.lemmas.Grind.{common_steps}
use Rattle.anti_proc.proofs.way.Way.first_look.Goals as goal

pub returns : goal.returns
returns c = grind (arith, common_steps)
