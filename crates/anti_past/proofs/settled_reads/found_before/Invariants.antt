use Rattle.std.proofs.Common.{take}
use Rattle.anti_past.specs.inner.Found.{AreFound}
use Rattle.anti_past.proofs.settled_reads.found_before.Given as goal

-- that is known of the entries so far
abbrev pub invariant-loop-at : goal.invariant-loop-at
invariant-loop-at l = AreFound (take l.at l.trace) l.found
