use Rattle.std.proofs.Common.{[], ◌∷◌}
use Rattle.anti_shim.specs.Sights.{IsHere}
use Rattle.test_libraries.proofs.handing_out.goes.Given as goal

-- the store stays as it is
abbrev pub invariant-loop-turn : goal.invariant-loop-turn
invariant-loop-turn g l = IsHere (g.P.Port.start l.port) 0 (0 ∷ [])
