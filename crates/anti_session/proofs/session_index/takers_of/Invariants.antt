use Rattle.std.proofs.Common.{take}
use Rattle.anti_session.specs.inner.Indexed.{AreTakersOf}
use Rattle.anti_session.proofs.session_index.takers_of.Given as goal

-- those of the entries so far are known
abbrev pub invariant-loop-index : goal.invariant-loop-index
invariant-loop-index l = AreTakersOf (take l.index l.trace) l.takers
