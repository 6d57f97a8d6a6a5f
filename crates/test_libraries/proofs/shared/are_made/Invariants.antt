use Rattle.std.proofs.Common.{◌≡◌}
use Rattle.test_libraries.proofs.shared.are_made.Given as goal

-- the pass is of the object
abbrev pub invariant-loop-span : goal.invariant-loop-span
invariant-loop-span g l = l.pass.id ≡ l.initial.pass.id
