use Rattle.std.proofs.Common.{◌≡◌, ◌+◌, drop, length}
use Rattle.anti_lang.specs.Blocks.{lines_of}
use Rattle.anti_lang.specs.Bodies.{block_from}
use Rattle.anti_lang.specs.Steps.{steps_of}
use Rattle.anti_place.specs.Paths.{earlier}
use Rattle.anti_place.specs.inner.Joined.{fault_in}
use Rattle.anti_place.proofs.body.+faults.Given as goal

abbrev pub invariant-fault_in-loop-statement : goal.invariant-fault_in-loop-statement
invariant-fault_in-loop-statement l = record {
  rest : earlier l.found (fault_in l.search l.doubt l.here (block_from (steps_of (drop l.statement-index l.statements))) l.held)
      ≡ fault_in l.search l.doubt l.line (block_from (steps_of l.statements)) l.held-2;
  lines : l.here + length (lines_of (block_from (steps_of (drop l.statement-index l.statements)))) ≡ l.line + length (lines_of (block_from (steps_of l.statements)));
}
