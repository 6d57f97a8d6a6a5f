use Rattle.anti_adversary.specs.inner.Playing.{IsPlayer}
use Rattle.anti_adversary.proofs.driver.Driver.go_on.Given as goal

abbrev pub invariant-loop : goal.invariant-loop
invariant-loop l = IsPlayer l.app l.self.stage.player
