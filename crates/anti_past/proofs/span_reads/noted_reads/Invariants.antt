use Rattle.anti_past.specs.inner.Keys.{is_read_in}
use Rattle.anti_past.specs.inner.Reading.{AreNoted}
use Rattle.anti_past.proofs.span_reads.noted_reads.Given as goal

-- the reads so far were noted
abbrev pub invariant-loop-index : goal.invariant-loop-index
invariant-loop-index l = AreNoted is_read_in l.trace l.index l.noted
