use Rattle.std.proofs.Common.{◌≡◌, ◌++◌, All, IsTrue, map, take}
use Rattle.anti_app.specs.declared.app.App.{App}
use Rattle.anti_app.specs.Sound.{is_sound}
use Rattle.anti_trace.specs.Histories.{Entries}
use Rattle.anti_trace.specs.Legal.{IsLegalTrace}
use Rattle.anti_trace.specs.inner.Living.{LivesItself}
use Rattle.anti_trace.specs.inner.Shown.{shown_end}
use Rattle.anti_trace.proofs.ends.add_ends.Given as goal

-- those so far are added
abbrev pub invariant-loop-process : goal.invariant-loop-process
invariant-loop-process g l =
    (app : App) (trace : Entries) → IsTrue (is_sound app) → IsLegalTrace app trace → All (LivesItself app trace) l.processes → g.T.EndOfObjects.After l.objects app trace
    → l.ends.items ≡ l.initial.ends.items ++ map (shown_end app trace) (take l.process-index l.processes)
