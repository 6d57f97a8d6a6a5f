use Rattle.std.proofs.Common.{◌≤◌, length}
use Rattle.std.specs.BinaryHeap.{IsHeap, heap_items}
use Rattle.std.specs.VecDeque.{deque_capacity}
use Rattle.anti_trace.specs.Histories.{all_entries}
use Rattle.anti_trace.specs.inner.Heads.{AreHeads, head_cmp}
use Rattle.anti_trace.proofs.Merges.{Merging}
use Rattle.anti_trace.proofs.history_merge.merge.Given as goal

-- what is left of the histories and what was taken are the histories, and there is room for all
abbrev pub invariant-loop-first : goal.invariant-loop-first
invariant-loop-first l = record {
  merging : Merging l.fn.histories.items l.left.items l.entries.items;
  order : IsHeap head_cmp (heap_items l.heads);
  heads : AreHeads l.left.items (heap_items l.heads);
  room : length (all_entries l.fn.histories.items) ≤ deque_capacity l.entries;
}

abbrev pub decreases-loop-first : goal.decreases-loop-first
decreases-loop-first l = length (all_entries l.left.items)
