use Rattle.anti_live.specs.Clients.{IsOf}
use Rattle.bench_live.proofs.splits.Given as goal

-- the client is of the stores
abbrev pub invariant-loop : goal.invariant-loop
invariant-loop g l = IsOf l.live l.client
