-- A process and how it ended, by the process itself.
use Rattle.std.specs.Prelude.{List}
use Rattle.anti_kind.specs.declared.entry.Entry.{Entry}
use Rattle.anti_app.specs.declared.app.App.{App}
use Rattle.anti_proc.specs.declared.process.Process.{Process}
use Rattle.anti_proc.specs.inner.Standing.{birth_of, its_role}
use Rattle.anti_trace.specs.Ends.{end_in}
use Rattle.anti_trace.specs.declared.ends.ProcessEnd.{ProcessEnd}

abbrev pub shown_end : App → List Entry → Process → ProcessEnd
shown_end app trace p =
    record { birth = birth_of p; service = (its_role p).service; handler = (its_role p).handler; end = end_in app trace (birth_of p) }
