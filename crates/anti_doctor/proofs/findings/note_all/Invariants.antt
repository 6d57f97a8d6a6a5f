use Rattle.std.proofs.Common.{◌≡◌, drop}
use Rattle.anti_doctor.specs.inner.Findings.{with_findings}
use Rattle.anti_doctor.proofs.findings.note_all.Given as goal

-- with the writes to come they are all
abbrev pub invariant-loop-write : goal.invariant-loop-write
invariant-loop-write l = with_findings l.read (drop l.write-index l.missed) l.found.entries ≡ with_findings l.read l.missed l.initial.found.entries
