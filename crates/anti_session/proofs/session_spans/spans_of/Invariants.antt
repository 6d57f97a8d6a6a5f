use Rattle.std.proofs.Common.{◌≡◌, map, take}
use Rattle.anti_session.proofs.session_spans.spans_of.Given as goal

abbrev pub invariant-loop-session : goal.invariant-loop-session
invariant-loop-session l = l.spans.items ≡ map (λ s. s.span) (take l.session-index l.listed)
