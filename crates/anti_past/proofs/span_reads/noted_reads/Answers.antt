use Rattle.anti_past.specs.inner.Keys.{is_read_in}
use Rattle.anti_past.proofs.SpansRead.{noted_more}
use Rattle.anti_past.proofs.span_reads.noted_reads.Goals as goal

pub loop-index-preserved : goal.loop-index-preserved
loop-index-preserved c =
    noted_more is_read_in c.args.trace.now c.loop-index.index c.at.result.now c.at.ensures c.loop-index.noted c.note_read.new.noted c.loop-index.invariant
    c.in_ok-note_read.ensures
