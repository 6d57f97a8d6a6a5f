use Rattle.std.proofs.Common.{◌≡◌}
use Rattle.anti_lang.specs.Bodies.{block_from}
use Rattle.anti_lang.specs.Steps.{steps_of}
use Rattle.anti_proc.specs.Meaning.{Go, block_tree}
use Rattle.anti_proc.specs.inner.Quiet.{KnowsNone, local_with}
use Rattle.anti_proc.specs.inner.Standing.{setting_in}
use Rattle.anti_proc.proofs.Quieting.{from}
use Rattle.anti_proc.proofs.quiet.+quiet.Given as goal

-- the statements that were run made no call
abbrev pub invariant-run_block-loop-statement : goal.invariant-run_block-loop-statement
invariant-run_block-loop-statement l = record {
  goes : (go : Go) → block_tree (block_from (steps_of l.block)) (setting_in l.way) (local_with l.way l.fn.quiet) go
      ≡ block_tree (from l.block l.statement-index) (setting_in l.way) (local_with l.way l.quiet) go;
  known : KnowsNone l.way l.quiet;
}
