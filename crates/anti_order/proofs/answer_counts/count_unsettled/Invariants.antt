use Rattle.std.proofs.Common.{◌≡◌, ◌≤◌, count_by, take}
use Rattle.anti_order.specs.inner.Grounds.{has_unsettled}
use Rattle.anti_order.proofs.answer_counts.count_unsettled.Given as goal

-- the count is that of the spans so far
abbrev pub invariant-loop-reads : goal.invariant-loop-reads
invariant-loop-reads l = record {
  counted : l.count ≡ count_by (λ s. has_unsettled l.pasts s.reads.items) (take l.reads-index l.spans);
  few : l.count ≤ l.reads-index;
}
