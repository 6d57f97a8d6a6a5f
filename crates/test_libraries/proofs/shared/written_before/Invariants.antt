use Rattle.std.proofs.Common.{◌≡◌}
use Rattle.test_libraries.proofs.shared.written_before.Given as goal

-- the pass is of the object
abbrev pub invariant-loop-made : goal.invariant-loop-made
invariant-loop-made g l = l.pass.id ≡ l.initial.pass.id
