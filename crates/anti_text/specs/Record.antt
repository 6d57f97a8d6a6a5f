-- The record of a run, as text.
use Rattle.std.specs.Prelude.{ℕ, List, ◌++◌, length, codes, decimal}
use Rattle.std.specs.List.{flat_map}
use Rattle.anti_app.specs.declared.app.App.{App}
use Rattle.anti_text.specs.Entries.{entry_line, wait_line}
use Rattle.anti_text.specs.Processes.{process_line}
use Rattle.anti_report.specs.Report.{Told}
use Rattle.anti_text.specs.Spans.{span_line}

-- a line for each entry in the order of the trace, for each choice that made none, for each process, and for each span with a read; last
-- how many entries there are
abbrev pub text_of : App → Told → List ℕ
text_of app t =
    codes "record 1\n" ++ flat_map (entry_line app) t.entries ++ flat_map (wait_line app) t.waits
    ++ flat_map (process_line app) t.ends ++ flat_map (span_line app) t.spans
    ++ codes "end " ++ decimal (length t.entries) ++ codes "\n"
