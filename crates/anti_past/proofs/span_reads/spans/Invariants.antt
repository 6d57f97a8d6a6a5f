use Rattle.std.proofs.Common.{◌≡◌, map, take}
use Rattle.anti_past.proofs.span_reads.spans.Given as goal

abbrev pub invariant-loop-reads : goal.invariant-loop-reads
invariant-loop-reads l = l.spans.items ≡ map (λ s. s.span) (take l.reads-index l.reads-items)
