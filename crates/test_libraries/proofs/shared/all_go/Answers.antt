use Rattle.std.proofs.Common.{[], ◌∷◌}
use Rattle.anti_shim.proofs.Here.{here_stays}
use Rattle.test_libraries.proofs.shared.all_go.Goals as goal

pub loop-step-preserved : goal.loop-step-preserved
loop-step-preserved g c =
    here_stays (g.P.Port.start c.goes.new.port) (g.P.Port.start c.loop-step.port) 0 (0 ∷ []) c.goes.ensures c.loop-step.invariant
