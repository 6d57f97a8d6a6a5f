-- A pass and a call go to a thread, and the pass comes back from it with the answer. The store is seen from both.
use denote.Param.Send.{sendable}
use Rattle.std.proofs.Crossing.{crosses}
use Rattle.anti_kind.proofs.call.Call.TheSendSync as call
use Rattle.anti_kind.proofs.port.Answer.TheSendSync as answer
use Rattle.anti_kv.proofs.kv_store.Kv.TheSendSync as kv
use Rattle.anti_shared.proofs.Crossing.{pass_send, shared_sync}
use Rattle.sample_callers.proofs.shared.side_by_side.Goals as goal

pub join-pass-requires-send-F : goal.join-pass-requires-send-F
join-pass-requires-send-F g c κs within = search (pass_send, shared_sync, kv.the_send, call.the_send, crosses, sendable) depth 20

pub join-pass-requires-send-A : goal.join-pass-requires-send-A
join-pass-requires-send-A g c κs within = search (pass_send, kv.the_send, answer.the_send, crosses, sendable) depth 20
