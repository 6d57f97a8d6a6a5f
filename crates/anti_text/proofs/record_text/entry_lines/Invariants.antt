use Rattle.std.proofs.Common.{◌≡◌, ◌++◌, take}
use Rattle.std.specs.List.{flat_map}
use Rattle.anti_text.specs.Entries.{entry_line}
use Rattle.anti_text.proofs.record_text.entry_lines.Given as goal

-- the entries so far are written
abbrev pub invariant-loop-entry : goal.invariant-loop-entry
invariant-loop-entry l = l.out ≡ l.initial.out ++ flat_map (entry_line l.printer.app.now) (take l.entry-index l.trace)
