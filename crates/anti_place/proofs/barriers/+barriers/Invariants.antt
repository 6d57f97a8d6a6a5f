use Rattle.std.proofs.Common.{◌≡◌, ◌+◌, ◌++◌, length}
use Rattle.anti_lang.specs.Blocks.{lines_of}
use Rattle.anti_lang.specs.Bodies.{block_from}
use Rattle.anti_lang.specs.Steps.{steps_of}
use Rattle.anti_place.specs.inner.Said.{told_lines}
use Rattle.anti_place.proofs.Stepping.{from}
use Rattle.anti_place.proofs.barriers.+barriers.Given as goal

abbrev pub invariant-add_among-loop-statement : goal.invariant-add_among-loop-statement
invariant-add_among-loop-statement l = record {
  rest : l.remarks.items
      ++ told_lines l.target.service l.target.handler l.named (block_from (steps_of l.body)) l.here (lines_of (from l.statements l.statement-index))
      ≡ l.fn.remarks.items ++ told_lines l.target.service l.target.handler l.named (block_from (steps_of l.body)) l.line (lines_of (block_from (steps_of l.statements)));
  lines : l.here + length (lines_of (from l.statements l.statement-index)) ≡ l.line + length (lines_of (block_from (steps_of l.statements)));
}
