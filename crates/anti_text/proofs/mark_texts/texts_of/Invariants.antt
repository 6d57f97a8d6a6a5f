use Rattle.std.proofs.Common.{◌≡◌, map, take}
use Rattle.anti_text.specs.Spans.{spaced_mark}
use Rattle.anti_text.proofs.mark_texts.texts_of.Given as goal

-- the texts of the marks so far
abbrev pub invariant-loop-mark : goal.invariant-loop-mark
invariant-loop-mark l = l.texts ≡ map (spaced_mark l.app) (take l.mark-index l.marks)
