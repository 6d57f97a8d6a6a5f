-- The text of the counts of a run is the summary of what is told of it.
use Rattle.std.proofs.Common.{◌≡◌, ℕ, List, ap, ◌∙◌}
use Rattle.anti_kind.specs.declared.entry.Entry.{Entry}
use Rattle.anti_app.specs.declared.app.App.{App}
use Rattle.anti_report.specs.Report.{IsPrinted}
use Rattle.anti_report.specs.Tallies.{AreRunCountsOf}
use Rattle.anti_report.specs.declared.run_counts.RunCounts.{RunCounts}
use Rattle.anti_text.specs.Summary.{counts_text, summary_of}

pub summary_is : (app : App) (trace : List Entry) (waits text : List ℕ) (counts : RunCounts)
    → AreRunCountsOf app trace waits counts → text ≡ counts_text counts → IsPrinted summary_of app trace waits text
summary_is app trace waits text counts c is = record {
  told = c.told;
  tells = c.tells;
  text = is ∙ ap counts_text c.counted;
}
