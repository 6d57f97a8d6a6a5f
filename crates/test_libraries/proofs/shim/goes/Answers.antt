use Rattle.std.proofs.Common.{[], ◌∷◌}
use Rattle.anti_kind.specs.Lones.{lone_start}
use Rattle.anti_shim.proofs.Here.{here_stays}
use Rattle.test_libraries.proofs.shim.goes.Goals as goal

pub loop-turn-preserved : goal.loop-turn-preserved
loop-turn-preserved g c =
    here_stays (lone_start g.M.Machine.start c.goes_once.new.port) (lone_start g.M.Machine.start c.loop-turn.port) 0 (0 ∷ []) c.goes_once.ensures c.loop-turn.invariant

pub returns-then-not-goes_once : goal.returns-then-not-goes_once
returns-then-not-goes_once g c =
    here_stays (lone_start g.M.Machine.start c.goes_once.new.port) (lone_start g.M.Machine.start c.loop-turn.port) 0 (0 ∷ []) c.goes_once.ensures c.loop-turn.invariant
