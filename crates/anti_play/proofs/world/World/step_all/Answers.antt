use Rattle.std.proofs.Common.{arith}
use Rattle.anti_play.proofs.world.World.step_all.Goals as goal

pub returns : goal.returns
returns c = grind arith
