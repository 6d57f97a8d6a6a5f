use Rattle.std.proofs.Common.{take}
use Rattle.anti_order.specs.Answers.{AreMarksOf}
use Rattle.anti_session.proofs.span_members.marks_of.Given as goal

-- the marks so far
abbrev pub invariant-loop-place : goal.invariant-loop-place
invariant-loop-place l = AreMarksOf l.trace (take l.place-index l.places) l.marks.items
