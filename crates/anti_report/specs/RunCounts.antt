-- How many entries, processes and spans of each kind a run has.
use Rattle.std.specs.Prelude.{ℕ, Bool, true, false, List, length, count_by, Option, Some}
use Rattle.anti_kind.specs.declared.call.Call.{Call}
use Rattle.anti_kind.specs.declared.call.Call.TheVariants.{Write, Ship}
use Rattle.anti_kind.specs.declared.entry.Entry.{Entry}
use Rattle.anti_proc.specs.Looks.{is_look}
use Rattle.anti_proc.specs.declared.end.End.{End}
use Rattle.anti_proc.specs.declared.end.End.TheVariants.{Fine}
use Rattle.law_causal.specs.Words.{reads}
use Rattle.anti_order.specs.Counts.{how_many, is_lossy, is_ordered, is_unguarded}
use Rattle.anti_report.specs.Report.{Told}
use Rattle.anti_report.specs.declared.run_counts.RunCounts.{RunCounts}

abbrev pub is_write : Call → Bool
is_write (Write key value lineage) = true
is_write call = false

abbrev pub is_ship : Call → Bool
is_ship (Ship region version part) = true
is_ship call = false

abbrev pub is_fine : Option End → Bool
is_fine (Some Fine) = true
is_fine end = false

-- how many entries have such a call
abbrev pub calls_counted : (Call → Bool) → List Entry → ℕ
calls_counted test entries = count_by (λ e. test e.call) entries

-- the counts of what is told of a run
abbrev pub run_counts : Told → RunCounts
run_counts t = record {
  entries = length t.entries;
  writes = calls_counted is_write t.entries;
  reads = calls_counted reads t.entries;
  looks = calls_counted is_look t.entries;
  ships = calls_counted is_ship t.entries;
  processes = length t.ends;
  fine = count_by (λ p. is_fine p.end) t.ends;
  spans = record { ordered = how_many is_ordered t.spans; unguarded = how_many is_unguarded t.spans; lossy = how_many is_lossy t.spans };
}
