use Rattle.std.proofs.Common.{◌≡◌}
use Rattle.test_libraries.proofs.shared.are_rows_told.Given as goal

-- the pass is of the object
abbrev pub invariant-loop-row : goal.invariant-loop-row
invariant-loop-row g l = l.pass.id ≡ l.initial.pass.id
