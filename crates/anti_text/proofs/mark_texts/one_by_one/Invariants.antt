use Rattle.std.proofs.Common.{◌≡◌, ◌++◌, take}
use Rattle.std.specs.List.{flat_map}
use Rattle.anti_text.specs.Spans.{spaced_mark}
use Rattle.anti_text.proofs.mark_texts.one_by_one.Given as goal

-- the marks so far are written
abbrev pub invariant-loop-mark : goal.invariant-loop-mark
invariant-loop-mark l = l.out ≡ l.initial.out ++ flat_map (spaced_mark l.app) (take l.mark-index l.marks)
