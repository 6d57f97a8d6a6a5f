use Rattle.std.proofs.Common.{◌≡◌, ◌+◌, ◌≤◌, length, take, vec_capacity}
use Rattle.anti_ids.proofs.copies.Copies.copy_all.Given as goal

-- what was copied so far, in a list that has room for the rest
abbrev pub invariant-loop-item : goal.invariant-loop-item
invariant-loop-item g l = record {
  again : l.again.items ≡ take l.item-index l.items;
  room : length l.items + l.more ≤ vec_capacity l.again;
}
