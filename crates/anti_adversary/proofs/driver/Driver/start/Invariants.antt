use Rattle.anti_adversary.specs.inner.Playing.{IsPlayer}
use Rattle.anti_adversary.proofs.driver.Driver.start.Given as goal

abbrev pub invariant-loop-service : goal.invariant-loop-service
invariant-loop-service l = IsPlayer l.app l.self.stage.player
