use Rattle.std.proofs.Common.{◌≡◌, ◌++◌, length, reverse}
use Rattle.anti_trace.proofs.history_merge.taken_apart.Given as goal

-- what is left, and then what was taken, is what there was
abbrev pub invariant-loop-history : goal.invariant-loop-history
invariant-loop-history l = l.histories.items ++ reverse l.left.items ≡ l.fn.histories.items

abbrev pub decreases-loop-history : goal.decreases-loop-history
decreases-loop-history l = length l.histories.items
