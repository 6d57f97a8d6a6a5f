use Rattle.std.proofs.Common.{◌≡◌, ◌++◌, take}
use Rattle.std.specs.List.{flat_map}
use Rattle.anti_text.specs.Entries.{wait_line}
use Rattle.anti_text.proofs.record_text.wait_lines.Given as goal

-- the choices so far are written
abbrev pub invariant-loop-number : goal.invariant-loop-number
invariant-loop-number l = l.out ≡ l.initial.out ++ flat_map (wait_line l.printer.app.now) (take l.number-index l.waits)
