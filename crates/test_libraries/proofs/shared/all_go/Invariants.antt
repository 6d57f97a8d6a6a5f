use Rattle.std.proofs.Common.{[], ◌∷◌}
use Rattle.anti_shim.specs.Sights.{IsHere}
use Rattle.test_libraries.proofs.shared.all_go.Given as goal

-- the store stays as it is
abbrev pub invariant-loop-step : goal.invariant-loop-step
invariant-loop-step g l = IsHere (g.P.Port.start l.port) 0 (0 ∷ [])
