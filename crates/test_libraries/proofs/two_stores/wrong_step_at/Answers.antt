use Rattle.std.proofs.Common.{[], ◌∷◌}
use Rattle.anti_shim.proofs.Here.{here_stays}
use Rattle.test_libraries.proofs.two_stores.wrong_step_at.Goals as goal

pub loop-place-preserved : goal.loop-place-preserved
loop-place-preserved g c =
    here_stays (g.P.Port.start c.answers.new.port) (g.P.Port.start c.loop-place.port) 0 (0 ∷ 1 ∷ []) c.answers.ensures c.loop-place.invariant
