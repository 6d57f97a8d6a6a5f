use Rattle.std.proofs.Common.{take}
use Rattle.anti_doctor.specs.inner.Diagnosed.{AreDiagnosesFor}
use Rattle.anti_doctor.proofs.examining.diagnosed.Given as goal

-- the spans so far are examined
abbrev pub invariant-loop-reads : goal.invariant-loop-reads
invariant-loop-reads l = AreDiagnosesFor l.trace (take l.reads-index l.spans) l.diagnoses.items
