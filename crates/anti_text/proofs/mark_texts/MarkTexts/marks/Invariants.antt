use Rattle.std.proofs.Common.{◌≡◌, ◌++◌, take}
use Rattle.std.specs.List.{flat_map}
use Rattle.anti_order.specs.inner.Pieces.{marks_of}
use Rattle.anti_text.specs.Spans.{spaced_mark}
use Rattle.anti_text.proofs.mark_texts.MarkTexts.marks.Given as goal

-- the marks of the pieces so far are written
abbrev pub invariant-loop-piece : goal.invariant-loop-piece
invariant-loop-piece l =
    l.out ≡ l.initial.out ++ flat_map (spaced_mark l.self.app.now) (marks_of l.writes (take l.piece-index l.pieces))
