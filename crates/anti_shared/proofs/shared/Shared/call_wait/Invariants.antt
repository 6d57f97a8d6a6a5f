use Rattle.std.proofs.Common.{◌≡◌}
use Rattle.anti_shared.proofs.Waiting.{Waits}
use Rattle.anti_shared.proofs.shared.Shared.call_wait.Given as goal

-- the call is still to be made
abbrev pub invariant-loop : goal.invariant-loop
invariant-loop g l = (l.asking ≡ l.initial.asking) × Waits l.initial.pass l.pass
