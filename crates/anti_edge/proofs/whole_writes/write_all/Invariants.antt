use Rattle.std.proofs.Common.{◌≤◌, length}
use Rattle.anti_edge.proofs.Fronts.{HasWritten}
use Rattle.anti_edge.proofs.whole_writes.write_all.Given as goal

abbrev pub invariant-loop-rest : goal.invariant-loop-rest
invariant-loop-rest g l = record {
  written : HasWritten (g.K.Sink.written l.fn.sink) (g.K.Sink.written l.sink) l.bytes l.rest;
  count : g.K.Sink.faults l.fn.sink ≤ g.K.Sink.faults l.sink;
}

abbrev pub decreases-loop-rest : goal.decreases-loop-rest
decreases-loop-rest g l = length l.rest
