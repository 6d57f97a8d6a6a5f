use Rattle.std.proofs.Common.{◌≡◌, ◌≤◌, ◌++◌, length, reverse}
use Rattle.anti_app.proofs.reversal.turned.Given as goal

-- what is left goes, turned, behind what was moved, and there is room for it
abbrev pub invariant-loop-item : goal.invariant-loop-item
invariant-loop-item g l = record {
  order : l.turned.items ++ reverse l.list.items ≡ reverse l.initial.list.items;
  room : length l.list.items ≤ l.turned.spare;
}

abbrev pub decreases-loop-item : goal.decreases-loop-item
decreases-loop-item g l = length l.list.items
