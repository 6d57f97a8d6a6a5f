use Rattle.std.proofs.Common.{◌≡◌, ◌++◌, map}
use Rattle.anti_past.specs.inner.Reading.{reads_under}
use Rattle.anti_past.proofs.span_reads.reads_by_span.Given as goal

abbrev pub invariant-loop-key : goal.invariant-loop-key
invariant-loop-key l = l.spans.items ++ map reads_under l.key-iterator ≡ map reads_under l.initial.key-iterator
