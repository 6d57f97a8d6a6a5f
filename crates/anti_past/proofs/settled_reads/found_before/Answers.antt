use Rattle.anti_past.proofs.Finding.{found_more}
use Rattle.anti_past.proofs.settled_reads.found_before.Goals as goal

pub loop-at-preserved : goal.loop-at-preserved
loop-at-preserved c =
    found_more c.args.trace.now c.loop-at.at c.at.result.now c.at.ensures c.loop-at.found c.add.new.self c.loop-at.invariant c.in_ok-add.ensures
