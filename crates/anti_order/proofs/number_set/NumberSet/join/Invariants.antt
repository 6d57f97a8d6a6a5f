use Rattle.std.proofs.Common.{◌||◌}
use Rattle.anti_order.proofs.Bits.{AreJoined}
use Rattle.anti_order.proofs.number_set.NumberSet.join.Given as goal

abbrev pub invariant-loop-index : goal.invariant-loop-index
invariant-loop-index l = AreJoined (λ a b. a || b) l.fn.self l.others l.self-inside.words.items l.index
