use Rattle.std.proofs.Common.{◌≡◌, ◌++◌}
use Rattle.anti_doctor.specs.inner.Missing.{missed_from}
use Rattle.anti_doctor.proofs.missing.missed_by.Given as goal

-- what is found so far, and what the keys to come give
abbrev pub invariant-loop-key : goal.invariant-loop-key
invariant-loop-key l = l.missed.items ++ missed_from l.trace l.set l.entry l.key-iterator ≡ missed_from l.trace l.set l.entry l.initial.key-iterator
