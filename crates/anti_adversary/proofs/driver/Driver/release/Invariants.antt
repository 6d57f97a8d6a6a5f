use Rattle.anti_adversary.specs.inner.Playing.{IsPlayer}
use Rattle.anti_adversary.proofs.driver.Driver.release.Given as goal

abbrev pub invariant-loop-place : goal.invariant-loop-place
invariant-loop-place l = IsPlayer l.app l.self.stage.player
