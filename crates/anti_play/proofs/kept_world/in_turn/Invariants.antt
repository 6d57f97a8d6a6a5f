use Rattle.std.proofs.Common.{◌≡◌, ◌++◌, length, reverse}
use Rattle.anti_play.proofs.kept_world.in_turn.Given as goal

-- what is left, and then what was taken, is what there was
abbrev pub invariant-loop-item : goal.invariant-loop-item
invariant-loop-item g l = l.list.items ++ reverse l.items.items ≡ l.fn.list.items

abbrev pub decreases-loop-item : goal.decreases-loop-item
decreases-loop-item g l = length l.list.items
