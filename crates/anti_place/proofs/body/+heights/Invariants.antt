use Rattle.std.proofs.Common.{◌≡◌, ◌+◌, drop, length}
use Rattle.anti_lang.specs.Blocks.{lines_of}
use Rattle.anti_lang.specs.Bodies.{block_from}
use Rattle.anti_lang.specs.Steps.{steps_of}
use Rattle.anti_place.proofs.body.+heights.Given as goal

abbrev pub invariant-lines-loop-statement : goal.invariant-lines-loop-statement
invariant-lines-loop-statement l =
    l.count + length (lines_of (block_from (steps_of (drop l.statement-index l.statements)))) ≡ length (lines_of (block_from (steps_of l.statements)))
