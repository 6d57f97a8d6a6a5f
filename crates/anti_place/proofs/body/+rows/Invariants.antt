use Rattle.std.proofs.Common.{◌≡◌, drop, false}
use Rattle.anti_lang.specs.Bodies.{block_from}
use Rattle.anti_lang.specs.Steps.{steps_of}
use Rattle.anti_place.specs.Paths.{earlier}
use Rattle.anti_place.specs.inner.Joined.{by_rows, fault_of, reads_of}
use Rattle.anti_place.proofs.body.+rows.Given as goal

abbrev pub invariant-fault_of_reads-loop-statement : goal.invariant-fault_of_reads-loop-statement
invariant-fault_of_reads-loop-statement l =
    earlier l.found (by_rows (λ doubt. fault_of l.search doubt (block_from (steps_of l.body)) false) (reads_of (block_from (steps_of (drop l.statement-index l.statements)))))
    ≡ by_rows (λ doubt. fault_of l.search doubt (block_from (steps_of l.body)) false) (reads_of (block_from (steps_of l.statements)))
