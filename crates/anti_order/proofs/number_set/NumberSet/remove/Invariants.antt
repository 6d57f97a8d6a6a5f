use Rattle.std.proofs.Common.{◌&&◌, not}
use Rattle.anti_order.proofs.Bits.{AreJoined}
use Rattle.anti_order.proofs.number_set.NumberSet.remove.Given as goal

abbrev pub invariant-loop-index : goal.invariant-loop-index
invariant-loop-index l = AreJoined (λ a b. a && not b) l.fn.self l.others l.self-inside.words.items l.index
