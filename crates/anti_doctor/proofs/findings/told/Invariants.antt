use Rattle.std.proofs.Common.{◌≡◌, ◌++◌, Some, map}
use Rattle.anti_order.specs.Answers.{mark_at}
use Rattle.anti_doctor.proofs.findings.told.Given as goal

-- with the marks of the entries to come they are all
abbrev pub invariant-loop-write : goal.invariant-loop-write
invariant-loop-write l = record {
  reads : map (λ f. Some f.read) l.findings.items ++ map (λ e. mark_at l.trace e.1) l.write-iterator ≡ map (λ e. mark_at l.trace e.1) l.initial.write-iterator;
  writes : map (λ f. Some f.write) l.findings.items ++ map (λ e. mark_at l.trace e.0) l.write-iterator ≡ map (λ e. mark_at l.trace e.0) l.initial.write-iterator;
}
