use Rattle.std.proofs.Common.{◌≡◌, ◌++◌, List, OnOk, sym, subst}
use Rattle.anti_lang.specs.Bodies.{block_from}
use Rattle.anti_lang.specs.Steps.{steps_of}
use Rattle.anti_place.specs.declared.remark.Remark.{Remark}
use Rattle.anti_place.proofs.Adding.{barriers_more, if_told, repeat_told}
use Rattle.anti_place.proofs.Stepping.{lines_more}
use Rattle.anti_place.proofs.barriers.+barriers.Goals as goal

pub add_among-loop-statement-preserved : goal.add_among-loop-statement-preserved
add_among-loop-statement-preserved t c = record {
  rest =
      barriers_more c.args.target.service c.args.target.handler c.args.named (block_from (steps_of c.args.body.now)) c.args.statements.now
      c.loop-statement.statement-index c.statement-item.result c.loop-statement-test.true c.statement-item.is c.loop-statement.here c.height-here.result
      c.loop-statement.remarks.items c.add_in.new.remarks.items _ c.height-here.ensures c.in_ok-add_in.ensures c.loop-statement.invariant.rest;
  lines =
      lines_more c.args.statements.now c.loop-statement.statement-index c.statement-item.result c.loop-statement-test.true c.statement-item.is
      c.loop-statement.here c.height-here.result _ c.height-here.ensures c.loop-statement.invariant.lines;
}

pub add_in-returns-in-Repeat : goal.add_in-returns-in-Repeat
add_in-returns-in-Repeat t c =
    subst (λ (told : List Remark). OnOk c.add_among.result (c.add_among.new.remarks.items ≡ c.args.remarks.now.items ++ told))
    (sym
    (repeat_told c.args.target.service c.args.target.handler c.args.named (block_from (steps_of c.args.body.now)) c.args.line c.args.statement.now
    c.in-Repeat.count c.in-Repeat.block c.as_slice.result.now c.in-Repeat.is c.as_slice.ensures))
    c.add_among.ensures

pub add_in-returns-in-IfAbsent : goal.add_in-returns-in-IfAbsent
add_in-returns-in-IfAbsent t c =
    subst (λ (told : List Remark). OnOk c.add_among-in-IfAbsent.result (c.add_among-in-IfAbsent.new.remarks.items ≡ c.args.remarks.now.items ++ told))
    (sym
    (if_told c.args.target.service c.args.target.handler c.args.named (block_from (steps_of c.args.body.now)) c.args.line c.args.statement.now
    c.in-IfAbsent.variable c.in-IfAbsent.block c.as_slice-in-IfAbsent.result.now c.in-IfAbsent.is c.as_slice-in-IfAbsent.ensures))
    c.add_among-in-IfAbsent.ensures
