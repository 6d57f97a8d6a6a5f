use Rattle.std.proofs.Common.{arith, false}
use Rattle.std.proofs.lemmas.Grind.{common_steps}
use Rattle.anti_lang.specs.Bodies.{block_from}
use Rattle.anti_lang.specs.Steps.{steps_of}
use Rattle.anti_place.specs.inner.Joined.{fault_of}
use Rattle.anti_place.proofs.Stepping.{rows_more}
use Rattle.anti_place.proofs.body.+rows.Goals as goal

pub fault_of_reads-loop-statement-preserved : goal.fault_of_reads-loop-statement-preserved
fault_of_reads-loop-statement-preserved t c =
    rows_more c.args.statements.now c.loop-statement.statement-index c.statement-item.result c.loop-statement-test.true c.statement-item.is
    (λ doubt. fault_of c.args.search.now doubt (block_from (steps_of c.args.body.now)) false) c.loop-statement.found c.fault_of_read.result c.earlier-found.result _
    c.fault_of_read.ensures c.earlier-found.ensures c.loop-statement.invariant

pub fault_of_reads-returns : goal.fault_of_reads-returns
fault_of_reads-returns t c = grind (arith, common_steps)
