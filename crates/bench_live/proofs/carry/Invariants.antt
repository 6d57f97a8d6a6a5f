use Rattle.anti_live.specs.Clients.{IsOf}
use Rattle.bench_live.proofs.carry.Given as goal

-- the client is of the stores
abbrev pub invariant-loop-turn : goal.invariant-loop-turn
invariant-loop-turn g l = IsOf l.live l.client

abbrev pub invariant-loop-store : goal.invariant-loop-store
invariant-loop-store g l = IsOf l.live l.client
