-- A client is lent to each of two threads. The stores are seen from both.
use denote.Param.Send.{sendable}
use Rattle.std.proofs.Crossing.{crosses}
use Rattle.anti_live.proofs.Crossing.{client_send, live_sync}
use Rattle.sample_callers.proofs.live.post_and_notify.Goals as goal

pub join_mut-read-requires-send-F : goal.join_mut-read-requires-send-F
join_mut-read-requires-send-F g c κs within = search (client_send, live_sync, crosses, sendable) depth 20
