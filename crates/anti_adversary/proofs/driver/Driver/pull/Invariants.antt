use Rattle.anti_adversary.specs.inner.Playing.{IsPlayer}
use Rattle.anti_adversary.proofs.driver.Driver.pull.Given as goal

abbrev pub invariant-loop-number : goal.invariant-loop-number
invariant-loop-number l = IsPlayer l.app l.self.stage.player
