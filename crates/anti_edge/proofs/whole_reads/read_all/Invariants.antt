use Rattle.std.proofs.Common.{◌≡◌, ◌-◌, ◌≤◌, length}
use Rattle.anti_edge.proofs.Fronts.{HasRead}
use Rattle.anti_edge.proofs.whole_reads.read_all.Given as goal

abbrev pub invariant-loop-bytes : goal.invariant-loop-bytes
invariant-loop-bytes g l = record {
  read : HasRead (g.S.Source.left l.fn.src) (g.S.Source.left l.src) l.bytes.items;
  short : length l.bytes.items ≤ l.limit;
  block : length l.block ≡ 4096;
  count : g.S.Source.faults l.fn.src ≤ g.S.Source.faults l.src;
}

abbrev pub decreases-loop-bytes : goal.decreases-loop-bytes
decreases-loop-bytes g l = l.limit - length l.bytes.items
