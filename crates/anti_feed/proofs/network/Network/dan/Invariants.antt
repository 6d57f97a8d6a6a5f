use Rattle.anti_live.specs.Clients.{IsOf}
use Rattle.anti_feed.proofs.network.Network.dan.Given as goal

-- the client is of the network
abbrev pub invariant-loop-number : goal.invariant-loop-number
invariant-loop-number g l = IsOf l.self.live.now l.client
