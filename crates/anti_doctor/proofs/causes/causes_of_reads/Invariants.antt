use Rattle.std.proofs.Common.{◌≡◌, ℕ, List, length}
use Rattle.std.specs.Prelude.{Option, Some, slice_get}
use Rattle.anti_doctor.specs.inner.Causes.{IsKeptOf}
use Rattle.anti_doctor.specs.inner.Gathered.{KnowsCauses}
use Rattle.anti_doctor.proofs.causes.causes_of_reads.Given as goal

-- what is before the entries so far is known, and kept of each
abbrev pub invariant-loop-place : goal.invariant-loop-place
invariant-loop-place l = record {
  knows : KnowsCauses l.trace l.place l.causes;
  count : length l.sets.items ≡ l.place;
  each : (j : ℕ) (kept : Option (List ℕ)) → slice_get l.sets.items j ≡ Some kept → IsKeptOf l.trace j kept;
}
