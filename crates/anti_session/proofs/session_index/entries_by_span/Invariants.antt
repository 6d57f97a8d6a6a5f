use Rattle.anti_past.specs.inner.Keys.{is_in}
use Rattle.anti_past.specs.inner.Reading.{AreNoted}
use Rattle.anti_session.proofs.session_index.entries_by_span.Given as goal

-- the entries so far were noted
abbrev pub invariant-loop-index : goal.invariant-loop-index
invariant-loop-index l = AreNoted is_in l.trace l.index l.spans
