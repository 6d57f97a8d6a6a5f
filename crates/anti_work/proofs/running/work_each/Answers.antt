-- What a worker begins with goes to its thread, and what it gives back comes from there. The objects, the application and the gate are seen
-- from all threads.
use denote.Param.Send.{sendable}
use Rattle.std.proofs.Crossing.{crosses}
use Rattle.anti_app.proofs.Crossing.{app_sync}
use Rattle.anti_ids.proofs.memory.NoMemory.TheSendSync as memory
use Rattle.anti_object.proofs.object.Object.TheSendSync as object
use Rattle.anti_shared.proofs.Crossing.{pass_send, shared_sync}
use Rattle.anti_work.proofs.running.work_each.Goals as goal

pub map_vec-requires-send-J : goal.map_vec-requires-send-J
map_vec-requires-send-J g c κs within = search (pass_send, object.the_send, crosses, sendable) depth 30

pub map_vec-requires-send-X : goal.map_vec-requires-send-X
map_vec-requires-send-X g c κs within = search (pass_send, object.the_send, memory.the_send, crosses, sendable) depth 30

pub map_vec-requires-sync-F : goal.map_vec-requires-sync-F
map_vec-requires-sync-F g c κs within = search (shared_sync, object.the_send, app_sync, crosses, sendable) depth 30
