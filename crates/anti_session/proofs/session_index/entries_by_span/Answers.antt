use Rattle.anti_past.specs.inner.Keys.{is_in}
use Rattle.anti_past.proofs.SpansRead.{noted_more}
use Rattle.anti_session.proofs.session_index.entries_by_span.Goals as goal

pub loop-index-preserved : goal.loop-index-preserved
loop-index-preserved c =
    noted_more is_in c.args.trace.now c.loop-index.index c.at.result.now c.at.ensures c.loop-index.spans c.note_entry.new.spans c.loop-index.invariant
    c.in_ok-note_entry.ensures
