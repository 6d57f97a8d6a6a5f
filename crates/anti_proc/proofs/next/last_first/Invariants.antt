use Rattle.std.proofs.Common.{◌≡◌, ◌≤◌, ◌++◌, length, reverse}
use Rattle.anti_proc.proofs.next.last_first.Given as goal

abbrev pub invariant-loop-look : goal.invariant-loop-look
invariant-loop-look l = record {
  order : l.turned.items ++ reverse l.looks.items ≡ reverse l.initial.looks.items;
  room : length l.looks.items ≤ l.turned.spare;
}

abbrev pub decreases-loop-look : goal.decreases-loop-look
decreases-loop-look l = length l.looks.items
