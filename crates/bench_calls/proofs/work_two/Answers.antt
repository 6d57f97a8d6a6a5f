use denote.Param.Send.{sendable}
use Rattle.std.proofs.Crossing.{crosses}
use Rattle.anti_shared.proofs.Crossing.{pass_send, shared_sync}
use Rattle.bench_calls.proofs.work_two.Goals as goal

pub join-first-requires-send-F : goal.join-first-requires-send-F
join-first-requires-send-F g c κs within = search (pass_send, shared_sync, crosses, sendable) depth 20

pub join-first-requires-send-A : goal.join-first-requires-send-A
join-first-requires-send-A g c κs within = search (pass_send, sendable) depth 20
