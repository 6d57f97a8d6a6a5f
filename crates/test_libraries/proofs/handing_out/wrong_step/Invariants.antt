use Rattle.std.proofs.Common.{[], ◌∷◌}
use Rattle.anti_kind.specs.Lones.{lone_start}
use Rattle.anti_shim.specs.Sights.{IsHere}
use Rattle.test_libraries.proofs.handing_out.wrong_step.Given as goal

-- the store stays as it is
abbrev pub invariant-loop-place : goal.invariant-loop-place
invariant-loop-place g l = IsHere (lone_start g.M.Machine.start l.port) 0 (0 ∷ [])
