use Rattle.std.proofs.Common.{take}
use Rattle.std.specs.BinaryHeap.{IsHeap, heap_items}
use Rattle.anti_trace.specs.inner.Heads.{AreHeads, head_cmp}
use Rattle.anti_trace.proofs.heads.heads_of.Given as goal

-- the heads of the histories that were looked at
abbrev pub invariant-loop-number : goal.invariant-loop-number
invariant-loop-number l = record {
  order : IsHeap head_cmp (heap_items l.heads);
  heads : AreHeads (take l.number l.histories) (heap_items l.heads);
}
