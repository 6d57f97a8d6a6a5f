use Rattle.anti_doctor.proofs.Indexing.{index_more}
use Rattle.anti_doctor.proofs.write_index.index_of.Goals as goal

pub loop-place-preserved : goal.loop-place-preserved
loop-place-preserved c =
    index_more c.args.trace.now c.loop-place.place c.at.result.now c.at.ensures c.loop-place.index c.note_entry.new.index c.loop-place.invariant
    c.in_ok-note_entry.ensures
