use Rattle.std.proofs.Common.{drop}
use Rattle.anti_doctor.specs.inner.Findings.{IsFoundUpTo, past_by}
use Rattle.anti_doctor.proofs.grounds.Grounds.found.Given as goal

-- what the reads so far miss is found
abbrev pub invariant-loop-read : goal.invariant-loop-read
invariant-loop-read l = IsFoundUpTo l.trace (past_by l.self l.trace) l.reads (drop l.read-index l.reads) l.found.entries
