use Rattle.std.proofs.Common.{map, take}
use Rattle.anti_past.specs.inner.Keys.{span_of}
use Rattle.anti_session.specs.inner.Listed.{AreListed}
use Rattle.anti_session.proofs.session_spans.sessions_among.Given as goal

-- those so far are listed
abbrev pub invariant-loop-key : goal.invariant-loop-key
invariant-loop-key l = AreListed l.trace (map span_of (take l.key-index l.keys)) l.listed.items
