use Rattle.std.proofs.Common.{◌≡◌, IsTrue}
use Rattle.std.specs.List.{flat_map, range_with_len}
use Rattle.anti_app.specs.declared.app.App.{App}
use Rattle.anti_app.specs.Sound.{is_sound}
use Rattle.anti_trace.specs.Histories.{Entries}
use Rattle.anti_trace.specs.Legal.{IsLegalTrace}
use Rattle.anti_trace.specs.Ends.{ends_on}
use Rattle.anti_trace.specs.inner.Living.{AreProcessesOf}
use Rattle.anti_trace.proofs.processes.Processes.ends.Given as goal

-- those of the objects so far are added
abbrev pub invariant-loop-here : goal.invariant-loop-here
invariant-loop-here g l =
    (app : App) (trace : Entries) → IsTrue (is_sound app) → IsLegalTrace app trace → AreProcessesOf app l.self.at.items trace → g.T.EndOfObjects.After l.objects app trace
    → l.ends.items ≡ flat_map (ends_on app trace) (range_with_len 0 l.here-index)
