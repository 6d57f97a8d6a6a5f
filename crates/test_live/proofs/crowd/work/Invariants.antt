use Rattle.anti_live.specs.Clients.{IsOf}
use Rattle.test_live.proofs.crowd.work.Given as goal

-- both clients are of the stores
abbrev pub invariant-loop : goal.invariant-loop
invariant-loop g l = record { first : IsOf l.live l.first; second : IsOf l.live l.second }
