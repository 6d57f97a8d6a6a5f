use Rattle.anti_order.proofs.Noting.{AreNoted}
use Rattle.anti_order.proofs.writes.Writes.of.Given as goal

-- the writes of the entries so far are noted
abbrev pub invariant-loop-place : goal.invariant-loop-place
invariant-loop-place l = AreNoted l.app l.trace l.place l.gathered
