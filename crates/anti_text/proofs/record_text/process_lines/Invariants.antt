use Rattle.std.proofs.Common.{◌≡◌, ◌++◌, take}
use Rattle.std.specs.List.{flat_map}
use Rattle.anti_text.specs.Processes.{process_line}
use Rattle.anti_text.proofs.record_text.process_lines.Given as goal

-- the processes so far are written
abbrev pub invariant-loop-process : goal.invariant-loop-process
invariant-loop-process l = l.out ≡ l.initial.out ++ flat_map (process_line l.printer.app.now) (take l.process-index l.ends)
