-- A client goes to a thread, and comes back from it with what was counted. The stores are seen from both.
use denote.Param.Send.{sendable}
use Rattle.std.proofs.Crossing.{crosses}
use Rattle.anti_live.proofs.Crossing.{client_send, live_sync}
use Rattle.test_live.proofs.worker.Tally.TheSendSync as tally
use Rattle.test_live.proofs.crowd.work_two.Goals as goal

pub join-first-requires-send-F : goal.join-first-requires-send-F
join-first-requires-send-F g c κs within = search (client_send, live_sync, crosses, sendable) depth 20

pub join-first-requires-send-A : goal.join-first-requires-send-A
join-first-requires-send-A g c κs within = search (client_send, tally.the_send, crosses, sendable) depth 20
