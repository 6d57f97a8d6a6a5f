use Rattle.std.proofs.Common.{◌≡◌, length}
use Rattle.anti_live.specs.Clients.{IsOf}
use Rattle.bench_live.proofs.writes.Given as goal

-- the client is of the stores
abbrev pub invariant-loop-turn : goal.invariant-loop-turn
invariant-loop-turn g l = IsOf l.live l.client × (length l.live.stores ≡ 4)
