use Rattle.anti_doctor.specs.inner.Indexes.{IsIndexOf}
use Rattle.anti_doctor.proofs.write_index.index_of.Given as goal

-- the writes so far are noted
abbrev pub invariant-loop-place : goal.invariant-loop-place
invariant-loop-place l = IsIndexOf l.trace l.place l.index
