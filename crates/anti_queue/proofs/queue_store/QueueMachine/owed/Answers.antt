use Rattle.std.proofs.Common.{◌≡◌, ◌+◌, ◌≤◌, arith}
use Rattle.anti_ids.specs.declared.limits.TheConstants.{MOST_UNITS}
use Rattle.anti_kind.specs.Store.{owed_shipments, outs}
use Rattle.anti_kind.specs.Objects.{held}
use Rattle.anti_kind.proofs.Bounds.{within_units}
use Rattle.anti_queue.specs.QueueStates.{its_store, its_start}
use Rattle.anti_queue.proofs.Standing.{base_at}
use Rattle.anti_queue.proofs.queue_store.QueueMachine.owed.Goals as goal

pub returns : goal.returns
returns c = λ h at.
    let m = c.args.self.now in
    let s = its_store m in
    let within : held h + (owed_shipments s h + outs h) ≤ MOST_UNITS = within_units (its_start m) h at.sane at.legal in
    let is : c.saturating_add.result ≡ owed_shipments s h + outs h = omega (arith, c.saturating_add.ensures, c.owed.ensures s h (base_at m h at), c.out.ensures, at.state.messages.count) in
    is
