use Rattle.std.proofs.Common.{arith}
use Rattle.std.proofs.lemmas.Grind.{common_steps}
use Rattle.anti_place.proofs.body.+heights.Goals as goal

pub lines-loop-statement-preserved : goal.lines-loop-statement-preserved
lines-loop-statement-preserved t c = grind (arith, common_steps)

pub lines-overflow_add-count : goal.lines-overflow_add-count
lines-overflow_add-count t c = grind (arith, common_steps)

pub lines-returns : goal.lines-returns
lines-returns t c = grind (arith, common_steps)
