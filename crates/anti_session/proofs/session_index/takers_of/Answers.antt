use Rattle.anti_session.proofs.Indexing.{takers_more}
use Rattle.anti_session.proofs.session_index.takers_of.Goals as goal

pub loop-index-preserved : goal.loop-index-preserved
loop-index-preserved c =
    takers_more c.args.trace.now c.loop-index.index c.at.result.now c.at.ensures c.loop-index.takers c.note_taker.new.takers c.loop-index.invariant
    c.in_ok-note_taker.ensures
