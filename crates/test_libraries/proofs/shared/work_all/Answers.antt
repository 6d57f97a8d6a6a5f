use denote.Param.Send.{sendable}
use Rattle.std.proofs.Crossing.{crosses}
use Rattle.anti_shared.proofs.Crossing.{pass_send, shared_sync}
use Rattle.test_libraries.proofs.shared.Job.TheSendSync as job
use Rattle.test_libraries.proofs.shared.work_all.Goals as goal

pub join-pass-requires-send-F : goal.join-pass-requires-send-F
join-pass-requires-send-F g c κs within = search (pass_send, shared_sync, job.the_sync, crosses, sendable) depth 20

pub join-pass-requires-send-A : goal.join-pass-requires-send-A
join-pass-requires-send-A g c κs within = search (pass_send, crosses, sendable) depth 20
