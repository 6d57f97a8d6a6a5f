use Rattle.std.proofs.Common.{◌≡◌, ◌++◌, take}
use Rattle.std.specs.List.{flat_map}
use Rattle.anti_text.specs.Spans.{span_line}
use Rattle.anti_text.proofs.record_text.span_lines.Given as goal

-- the spans so far are written
abbrev pub invariant-loop-answered : goal.invariant-loop-answered
invariant-loop-answered l = l.out ≡ l.initial.out ++ flat_map (span_line l.printer.app.now) (take l.answered-index l.spans)
