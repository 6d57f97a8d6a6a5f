use Rattle.std.proofs.Common.{◌≡◌, ℕ, ◌<◌, ◌≤◌, max}
use Rattle.anti_shared.specs.inner.Marks.{number_at}
use Rattle.anti_shared.proofs.marking.raise_to.Given as goal

-- the regions before this one have the greater number, the others still their own
abbrev pub invariant-loop-region : goal.invariant-loop-region
invariant-loop-region l = record {
  before : (r : ℕ) → r < l.region → number_at l.raised r ≡ max (number_at l.initial.raised r) (number_at l.others r);
  behind : (r : ℕ) → l.region ≤ r → number_at l.raised r ≡ number_at l.initial.raised r;
}
