-- A pass may go to another thread, and a shared object may be seen from two.
use denote.RattleType.{RattleType}
use denote.Param.Send.{IsSend, IsSync, sendable}
use Rattle.std.proofs.Crossing.{crosses}
use Rattle.anti_kind.specs.declared.machine.Machine.{Ghosts}
use Rattle.anti_kind.proofs.recorded.Recorded.TheSendSync as recorded
use Rattle.anti_turn.proofs.seat.Seat.TheSendSync as seat
use Rattle.anti_turn.proofs.turn.Turn.TheSendSync as turn
use Rattle.anti_shared.specs.contracts.kept.Kept as kept
use Rattle.anti_shared.specs.contracts.pass.Pass as pass
use Rattle.anti_shared.specs.contracts.shared.Shared as shared

kept_send : (M : RattleType) (g : Ghosts M.Denot) → IsSend M → IsSend (kept.the_row M g)
kept_send M g s = search (recorded.the_send, crosses, sendable) depth 20

pub pass_send : (M : RattleType) (g : Ghosts M.Denot) → IsSend M → IsSend (pass.the_row M g)
pass_send M g s = search (kept_send, seat.the_send, sendable) depth 20

pub shared_sync : (M : RattleType) (g : Ghosts M.Denot) → IsSend M → IsSync (shared.the_row M g)
shared_sync M g s = search (kept_send, turn.the_sync, sendable) depth 20
