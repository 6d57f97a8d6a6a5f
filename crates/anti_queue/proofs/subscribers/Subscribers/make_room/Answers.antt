use Rattle.std.proofs.Common.{arith}
use Rattle.std.proofs.lemmas.Grind.{common_steps}
use Rattle.anti_queue.proofs.subscribers.Subscribers.make_room.Goals as goal

pub loop-subscriber-preserved : goal.loop-subscriber-preserved
loop-subscriber-preserved c = grind (arith, common_steps)

pub returns-clause-more : goal.returns-clause-more
returns-clause-more c = grind (arith, common_steps)

pub returns-clause-room : goal.returns-clause-room
returns-clause-room c = grind (arith, common_steps)

pub returns-in_err-make_room-clause-more : goal.returns-in_err-make_room-clause-more
returns-in_err-make_room-clause-more c = grind (arith, common_steps)
