use Rattle.std.proofs.Common.{◌≡◌}
use Rattle.test_libraries.proofs.shared_upto.all_go.Given as goal

-- both passes are of the object
abbrev pub invariant-loop-step : goal.invariant-loop-step
invariant-loop-step g l = record {
  first : l.first.id ≡ l.initial.first.id;
  other : l.other.id ≡ l.initial.other.id;
}
