-- The summary of a run: how many entries, processes and spans of each kind there are.
use Rattle.std.specs.Prelude.{ℕ, List, ◌++◌, codes, decimal}
use Rattle.anti_order.specs.declared.answer_counts.AnswerCounts.{AnswerCounts}
use Rattle.anti_report.specs.Report.{Told}
use Rattle.anti_report.specs.RunCounts.{run_counts}
use Rattle.anti_report.specs.declared.run_counts.RunCounts.{RunCounts}

-- what is counted, and how many there are, as `writes 800`
abbrev pub count_line : List ℕ → ℕ → List ℕ
count_line what count = what ++ codes " " ++ decimal count ++ codes "\n"

-- the lines of the entries, of the processes, and of the spans with a read
abbrev pub entry_counts : RunCounts → List ℕ
entry_counts t =
    count_line (codes "entries") t.entries ++ count_line (codes "writes") t.writes ++ count_line (codes "reads") t.reads
    ++ count_line (codes "looks") t.looks ++ count_line (codes "ships") t.ships

abbrev pub process_counts : RunCounts → List ℕ
process_counts t = count_line (codes "processes") t.processes ++ count_line (codes "fine") t.fine

abbrev pub span_counts : AnswerCounts → List ℕ
span_counts counts =
    count_line (codes "ordered") counts.ordered ++ count_line (codes "unguarded") counts.unguarded ++ count_line (codes "lossy") counts.lossy

abbrev pub counts_text : RunCounts → List ℕ
counts_text t = codes "summary 1\n" ++ entry_counts t ++ process_counts t ++ span_counts t.spans

abbrev pub summary_of : Told → List ℕ
summary_of t = counts_text (run_counts t)
