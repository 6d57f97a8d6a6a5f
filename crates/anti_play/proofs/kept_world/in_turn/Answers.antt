use Rattle.std.proofs.Common.{arith}
use Rattle.std.proofs.lemmas.Grind.{common_steps}
use Rattle.anti_play.proofs.kept_world.in_turn.Goals as goal

pub loop-item-smaller : goal.loop-item-smaller
loop-item-smaller g c = grind (arith, common_steps)

pub loop-item-preserved : goal.loop-item-preserved
loop-item-preserved g c = grind (arith, common_steps)
