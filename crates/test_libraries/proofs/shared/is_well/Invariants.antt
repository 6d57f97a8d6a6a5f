use Rattle.std.proofs.Common.{◌≡◌}
use Rattle.test_libraries.proofs.shared.is_well.Given as goal

-- the pass is of the object
abbrev pub invariant-loop-stage : goal.invariant-loop-stage
invariant-loop-stage g l = l.pass.id ≡ l.initial.pass.id
