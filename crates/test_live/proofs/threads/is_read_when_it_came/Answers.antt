-- A client goes to a thread, and comes back from it. The stores are seen from both.
use denote.Param.Send.{sendable}
use Rattle.std.proofs.Crossing.{crosses}
use Rattle.anti_live.proofs.Crossing.{client_send, live_sync}
use Rattle.test_live.proofs.threads.is_read_when_it_came.Goals as goal

pub join-second-requires-send-F : goal.join-second-requires-send-F
join-second-requires-send-F g c κs within = search (client_send, live_sync, crosses, sendable) depth 20

pub join-second-requires-send-A : goal.join-second-requires-send-A
join-second-requires-send-A g c κs within = search (client_send, crosses, sendable) depth 20
