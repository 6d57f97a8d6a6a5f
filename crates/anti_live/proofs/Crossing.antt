-- A client may go to another thread, and the stores may be seen from two.
use denote.Param.Send.{IsSend, IsSync, sendable}
use Rattle.std.proofs.Crossing.{crosses}
use Rattle.anti_ids.proofs.lineage.Lineage.TheSendSync as lineage
use Rattle.anti_kind.proofs.entry.Entry.TheSendSync as entry
use Rattle.anti_object.proofs.object.Object.TheSendSync as object
use Rattle.anti_shared.proofs.Crossing.{pass_send, shared_sync}
use Rattle.anti_live.proofs.stores.LiveStore.TheSendSync as store
use Rattle.anti_live.specs.contracts.client.Client as client
use Rattle.anti_live.specs.contracts.live.Live as live

pub client_send : IsSend client.the_row
client_send = search (pass_send, object.the_send, lineage.the_send, crosses, sendable) depth 40

pub live_sync : IsSync live.the_row
live_sync = search (shared_sync, object.the_send, object.the_sync, entry.the_sync, store.the_sync, crosses, sendable) depth 40
