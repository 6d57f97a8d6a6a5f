use Rattle.std.proofs.Common.{take}
use Rattle.anti_session.specs.inner.Listed.{AreAnswersFor}
use Rattle.anti_session.proofs.session_spans.answered.Given as goal

-- the sessions so far are answered
abbrev pub invariant-loop-session : goal.invariant-loop-session
invariant-loop-session l = AreAnswersFor l.app l.trace (take l.session-index l.listed) l.answers.items
