use Rattle.std.proofs.Common.{take}
use Rattle.anti_trace.specs.inner.Trails.{HasGone}
use Rattle.anti_trace.proofs.aftermath.Going.of.Given as goal

-- they went past the entries so far
abbrev pub invariant-loop-entry : goal.invariant-loop-entry
invariant-loop-entry l = HasGone l.app l.is_kept (take l.entry-index l.trace) l.going
