-- That counts are those of what is told of a run.
use Rattle.std.specs.Prelude.{ℕ, ◌≡◌, List}
use Rattle.anti_kind.specs.declared.entry.Entry.{Entry}
use Rattle.anti_app.specs.declared.app.App.{App}
use Rattle.anti_report.specs.Report.{IsTold, Told}
use Rattle.anti_report.specs.declared.run_counts.RunCounts.{RunCounts}
use Rattle.anti_report.specs.RunCounts.{run_counts}

-- these are the counts of what is to be told of the run
pub record AreRunCountsOf (app : App) (trace : List Entry) (waiting : List ℕ) (counts : RunCounts) : Type 0 where
  pub told : Told
  pub tells : IsTold app trace waiting told
  pub counted : counts ≡ run_counts told
