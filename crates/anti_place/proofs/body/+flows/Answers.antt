use Rattle.std.proofs.Common.{arith}
use Rattle.std.proofs.lemmas.Grind.{common_steps}
use Rattle.anti_place.proofs.Stepping.{flow_more}
use Rattle.anti_place.proofs.body.+flows.Goals as goal

pub through_block-loop-statement-preserved : goal.through_block-loop-statement-preserved
through_block-loop-statement-preserved t c =
    flow_more c.args.statements.now c.loop-statement.statement-index c.statement-item.result c.loop-statement-test.true c.statement-item.is
    c.args.doubt.now c.loop-statement.flow c.through.result c.then-flow.result _ c.through.ensures c.then-flow.ensures c.loop-statement.invariant

pub through_block-returns : goal.through_block-returns
through_block-returns t c = grind (arith, common_steps)
