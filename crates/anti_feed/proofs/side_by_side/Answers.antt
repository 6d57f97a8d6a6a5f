-- Clients go to threads, and come back from them. The stores are seen from all.
use denote.Param.Send.{sendable}
use Rattle.std.proofs.Crossing.{crosses}
use Rattle.anti_live.proofs.Crossing.{client_send, live_sync}
use Rattle.anti_feed.proofs.side_by_side.Goals as goal

pub join-cleos-requires-send-F : goal.join-cleos-requires-send-F
join-cleos-requires-send-F g c κs within = search (client_send, live_sync, crosses, sendable) depth 20

pub join-cleos-requires-send-A : goal.join-cleos-requires-send-A
join-cleos-requires-send-A g c κs within = search (client_send, crosses, sendable) depth 20
