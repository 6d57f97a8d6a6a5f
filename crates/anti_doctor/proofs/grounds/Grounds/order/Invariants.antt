use Rattle.std.proofs.Common.{drop}
use Rattle.anti_order.specs.inner.Arranging.{Arranges}
use Rattle.anti_doctor.specs.inner.Findings.{past_by}
use Rattle.anti_doctor.proofs.grounds.Grounds.order.Given as goal

-- the reads so far stand in the order
abbrev pub invariant-loop-read : goal.invariant-loop-read
invariant-loop-read l = Arranges l.trace l.self.writes (past_by l.self l.trace) l.reads (drop l.read-index l.reads) l.arranging
