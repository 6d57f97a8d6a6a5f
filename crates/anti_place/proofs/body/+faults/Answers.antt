use Rattle.std.proofs.lemmas.Grind.{common_steps}
use Rattle.std.proofs.Common.{sym, ◌∙◌, arith}
use Rattle.anti_place.proofs.Stepping.{lines_left, lines_more, fault_more}
use Rattle.anti_place.proofs.body.+faults.Goals as goal

pub fault_in-height-here-requires : goal.fault_in-height-here-requires
fault_in-height-here-requires t c =
    omega (arith, lines_left c.args.statements.now c.loop-statement.statement-index c.statement-item.result c.loop-statement-test.true c.statement-item.is)

pub fault_in-loop-statement-preserved : goal.fault_in-loop-statement-preserved
fault_in-loop-statement-preserved t c = record {
  rest =
      fault_more c.args.statements.now c.loop-statement.statement-index c.statement-item.result c.loop-statement-test.true c.statement-item.is
      c.args.search.now c.args.doubt.now c.loop-statement.here c.loop-statement.held c.loop-statement.found c.fault_at.result c.earlier-found.result _ c.through-flow.result
      c.fault_at.ensures c.earlier-found.ensures c.through-flow.ensures c.loop-statement.invariant.rest
      c.height-here.result c.leaves-held.result (sym c.stops.ensures ∙ c.if-stops.false) c.leaves-held.ensures c.height-here.ensures;
  lines =
      lines_more c.args.statements.now c.loop-statement.statement-index c.statement-item.result c.loop-statement-test.true c.statement-item.is
      c.loop-statement.here c.height-here.result _ c.height-here.ensures c.loop-statement.invariant.lines;
}

pub fault_in-returns-then-stops : goal.fault_in-returns-then-stops
fault_in-returns-then-stops t c = grind (arith, common_steps)

pub fault_in-returns : goal.fault_in-returns
fault_in-returns t c = grind (arith, common_steps)

pub fault_in-overflow_add-here : goal.fault_in-overflow_add-here
fault_in-overflow_add-here t c = grind (arith, common_steps)
