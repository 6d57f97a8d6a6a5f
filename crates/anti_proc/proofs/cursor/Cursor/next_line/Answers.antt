use Rattle.std.proofs.Common.{◌≡◌, sym, ◌∙◌, arith}
use Rattle.std.specs.Prelude.{Some, slice_get}
use Rattle.std.proofs.lemmas.Grind.{common_steps}
use Rattle.anti_lang.specs.Steps.{steps_of}
use Rattle.anti_proc.specs.inner.Cursors.{innermost}
use Rattle.anti_proc.proofs.Cursors.{line_left, line_opened}
use Rattle.anti_proc.proofs.cursor.Cursor.next_line.Goals as goal

pub returns-in-Some : goal.returns-in-Some
returns-in-Some c =
    let self = c.loop-statement.self in
    let block = c.innermost-block.result.now in
    let is : steps_of block ≡ innermost (steps_of c.args.body.now) self.outer.items = grind (arith, common_steps) in
    let at : slice_get block self.here.passed ≡ Some c.in-Some.statement.now = grind (arith, common_steps) in (
      sym c.loop-statement.invariant ∙ line_left (steps_of c.args.body.now) self.outer self.here.passed self.here.turns block c.in-Some.statement.now is at,
      line_opened (steps_of c.args.body.now) self.outer self.here.passed self.here.turns block c.in-Some.statement.now is at,
    )
