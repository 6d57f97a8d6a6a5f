use Rattle.std.proofs.lemmas.Grind.{common_steps}
use Rattle.std.proofs.Common.{arith}
use Rattle.anti_edge.proofs.Fronts.{HasWritten-step, HasWritten-front}
use Rattle.anti_edge.proofs.whole_writes.write_all.Goals as goal

pub returns-in_err-count-clause-front : goal.returns-in_err-count-clause-front
returns-in_err-count-clause-front g c = rw c.in_err-count.ensures.untaken (HasWritten-front _ _ _ _ c.loop-rest.invariant.written)

pub loop-rest-preserved : goal.loop-rest-preserved
loop-rest-preserved g c = record {
  written = rw c.split_at.ensures.back (HasWritten-step _ _ _ _ _ _ c.loop-rest.invariant.written c.in_ok-count.ensures.taken);
  count = omega arith;
}

pub returns-clause-ok : goal.returns-clause-ok
returns-clause-ok g c = grind (arith, common_steps)

pub returns-clause-front : goal.returns-clause-front
returns-clause-front g c = grind (arith, common_steps)
