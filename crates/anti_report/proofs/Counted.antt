-- Counts that are those of the lists of a run, and of the answers of its spans, are the counts of what is told of it.
use Rattle.std.proofs.Common.{◌≡◌, ℕ, List, length, count_by, refl}
use Rattle.anti_kind.specs.declared.entry.Entry.{Entry}
use Rattle.anti_app.specs.declared.app.App.{App}
use Rattle.anti_proc.specs.Looks.{is_look}
use Rattle.anti_trace.specs.declared.ends.ProcessEnd.{ProcessEnd}
use Rattle.anti_trace.specs.Ends.{ends_of}
use Rattle.law_causal.specs.Words.{reads}
use Rattle.anti_order.specs.Tallies.{AreCountsOf}
use Rattle.anti_order.specs.declared.answer_counts.AnswerCounts.{AnswerCounts}
use Rattle.anti_report.specs.RunCounts.{calls_counted, is_fine, is_ship, is_write}
use Rattle.anti_report.specs.Tallies.{AreRunCountsOf}
use Rattle.anti_report.specs.declared.run_counts.RunCounts.{RunCounts}

-- the counts of a run with these entries, ends and answers
abbrev pub counts_with : List Entry → List ProcessEnd → AnswerCounts → RunCounts
counts_with entries ends spans = record {
  entries = length entries;
  writes = calls_counted is_write entries;
  reads = calls_counted reads entries;
  looks = calls_counted is_look entries;
  ships = calls_counted is_ship entries;
  processes = length ends;
  fine = count_by (λ p. is_fine p.end) ends;
  spans = spans;
}

pub counted : (app : App) (trace : List Entry) (waits : List ℕ) (ends : List ProcessEnd) (spans : AnswerCounts)
    → ends ≡ ends_of app trace → AreCountsOf app trace spans → AreRunCountsOf app trace waits (counts_with trace ends spans)
counted app trace waits ends spans ended c = record {
  told = record { entries = trace; waits = waits; ends = ends; spans = c.answers };
  tells = record { entries = refl; waits = refl; ends = ended; spans = c.answered };
  counted = rw (← c.ordered, ← c.unguarded, ← c.lossy) refl;
}
