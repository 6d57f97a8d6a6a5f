use denote.Param.Send.{sendable}
use Rattle.std.proofs.Crossing.{crosses}
use Rattle.anti_live.proofs.Crossing.{client_send, live_sync}
use Rattle.anti_feed.proofs.fn.side_by_side.join+arg3.Goals as goal

pub join-requires-send-F : goal.join-requires-send-F
join-requires-send-F g c κs within = search (client_send, live_sync, crosses, sendable) depth 20

pub join-requires-send-A : goal.join-requires-send-A
join-requires-send-A g c κs within = search (client_send, crosses, sendable) depth 20
