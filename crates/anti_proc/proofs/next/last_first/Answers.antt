use Rattle.std.proofs.Common.{arith}
use Rattle.std.proofs.lemmas.Grind.{common_steps}
use Rattle.anti_proc.proofs.next.last_first.Goals as goal

pub loop-look-smaller : goal.loop-look-smaller
loop-look-smaller c = grind (arith, common_steps)

pub loop-look-preserved : goal.loop-look-preserved
loop-look-preserved c = grind (arith, common_steps)

pub put-requires : goal.put-requires
put-requires c = grind (arith, common_steps)
