use Rattle.std.proofs.Common.{arith}
use Rattle.std.proofs.lemmas.Grind.{common_steps}
use Rattle.anti_past.proofs.came.Came.is_in.Goals as goal

pub returns : goal.returns
returns c = grind (arith, common_steps)

pub returns-then-not-holds_all : goal.returns-then-not-holds_all
returns-then-not-holds_all c = grind (arith, common_steps)
