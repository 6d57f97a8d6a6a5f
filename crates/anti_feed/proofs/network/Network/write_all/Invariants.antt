use Rattle.anti_live.specs.Clients.{IsOf}
use Rattle.anti_feed.proofs.network.Network.write_all.Given as goal

-- both clients are of the network
abbrev pub invariant-loop-number : goal.invariant-loop-number
invariant-loop-number g l = IsOf l.self.live.now l.ana × IsOf l.self.live.now l.ben
