use Rattle.std.proofs.Common.{arith}
use Rattle.std.proofs.lemmas.Grind.{common_steps}
use Rattle.std.specs.BinaryHeap.{heap_items}
use Rattle.anti_trace.proofs.HeadLemmas.{heads_more}
use Rattle.anti_trace.proofs.heads.heads_of.Goals as goal

pub loop-number-preserved : goal.loop-number-preserved
loop-number-preserved c = record {
  order = c.in_ok-add_head.ensures.order c.loop-number.invariant.order;
  heads = heads_more c.args.histories.now c.loop-number.number c.index-histories-number.result (heap_items c.loop-number.heads) (heap_items c.add_head.new.heads)
      c.loop-number-test.true c.index-histories-number.is c.loop-number.invariant.heads c.in_ok-add_head.ensures.heads;
}

pub returns-clause-heads : goal.returns-clause-heads
returns-clause-heads c = grind (arith, common_steps)
