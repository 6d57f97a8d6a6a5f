use Rattle.std.proofs.Common.{◌≡◌, drop}
use Rattle.anti_lang.specs.Bodies.{block_from}
use Rattle.anti_lang.specs.Steps.{steps_of}
use Rattle.anti_place.specs.inner.Joined.{then_flow, through_block}
use Rattle.anti_place.proofs.body.+flows.Given as goal

abbrev pub invariant-through_block-loop-statement : goal.invariant-through_block-loop-statement
invariant-through_block-loop-statement l =
    then_flow l.flow (through_block l.doubt (block_from (steps_of (drop l.statement-index l.statements)))) ≡ through_block l.doubt (block_from (steps_of l.statements))
