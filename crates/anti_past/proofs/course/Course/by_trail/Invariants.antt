use Rattle.anti_past.specs.inner.Walking.{ArePastsBefore, HasCome}
use Rattle.anti_past.proofs.course.Course.by_trail.Given as goal

-- the walk has come to the entry, and each before it was told of
abbrev pub invariant-loop-index : goal.invariant-loop-index
invariant-loop-index l = HasCome l.app l.trace l.index l.walk × ArePastsBefore l.app l.trace l.index l.pasts.items
