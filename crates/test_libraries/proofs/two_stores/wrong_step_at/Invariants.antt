use Rattle.std.proofs.Common.{[], ◌∷◌}
use Rattle.anti_shim.specs.Sights.{IsHere}
use Rattle.test_libraries.proofs.two_stores.wrong_step_at.Given as goal

-- the stores stay as they are
abbrev pub invariant-loop-place : goal.invariant-loop-place
invariant-loop-place g l = IsHere (g.P.Port.start l.port) 0 (0 ∷ 1 ∷ [])
