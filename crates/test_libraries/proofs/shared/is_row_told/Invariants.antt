use Rattle.std.proofs.Common.{◌≡◌}
use Rattle.test_libraries.proofs.shared.is_row_told.Given as goal

-- the pass is of the object
abbrev pub invariant-loop-before : goal.invariant-loop-before
invariant-loop-before g l = l.pass.id ≡ l.initial.pass.id
