use Rattle.std.proofs.Common.{take}
use Rattle.anti_trace.specs.inner.After.{AreAfter}
use Rattle.anti_trace.proofs.objects.ObjectsAfter.of.Given as goal

-- the objects stand for the entries so far
abbrev pub invariant-loop-entry : goal.invariant-loop-entry
invariant-loop-entry l = AreAfter l.app (take l.entry-index l.trace) l.objects.items
