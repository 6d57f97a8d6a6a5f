use Rattle.std.proofs.Common.{◌∙◌}
use Rattle.anti_report.proofs.Counted.{counted}
use Rattle.anti_report.proofs.run_counts.RunCounts.of.Goals as goal

pub returns : goal.returns
returns c waits =
    rw (
      c.count_writes.ensures,
      c.count_reads.ensures,
      c.count_looks.ensures,
      c.count_ships.ensures,
      c.count_fine.ensures,
      c.as_slice-entries.ensures.entries,
    ) (counted c.args.app.now c.args.trace.now waits c.as_slice-ends.result.now c.in_ok-spans.spans (c.as_slice-ends.ensures ∙ c.requires.after.ends) c.in_ok-spans.ensures)
