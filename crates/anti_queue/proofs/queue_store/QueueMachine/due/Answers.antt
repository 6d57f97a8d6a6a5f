use Rattle.std.proofs.Common.{◌≡◌, true, Option, Some, None, refl, sym, ap, ◌∙◌}
use Rattle.anti_ids.specs.Names.{is_plain}
use Rattle.anti_kind.specs.declared.call.Call.{Call}
use Rattle.anti_kind.specs.declared.call.Reply.TheVariants.{Written}
use Rattle.anti_kind.specs.declared.call.Call.TheVariants.{Write}
use Rattle.anti_kind.specs.declared.row.Row.{Row}
use Rattle.anti_kind.specs.Store.{key_for, left_by, replaced, store_due, store_ready, told_over, with_left}
use Rattle.anti_kind.proofs.Overs.{nothing_replaced}
use Rattle.anti_queue.specs.QueueStates.{its_store}
use Rattle.anti_queue.proofs.Standing.{base_at}
use Rattle.anti_queue.proofs.queue_store.QueueMachine.due.Goals as goal

pub returns-in_ok-new-in-Some-clause-due : goal.returns-in_ok-new-in-Some-clause-due
returns-in_ok-new-in-Some-clause-due c = λ h at.
    let m = c.args.self.now in
    let s = its_store m in
    let channel = c.in-Write.key in
    let asked = c.get.result.now in
    let plain : is_plain asked ≡ true = ap is_plain c.get.ensures ∙ ap (λ (x : Call). store_ready s c.requires.history x) (sym c.in-Write.is) ∙ c.requires.is_ready in
    let some : Some c.in-Some.key ≡ Some (key_for s.kind h asked) = sym c.in-Some.is ∙ c.next_key.ensures s h at.legal at.state.channels refl plain in
    let same : c.in-Some.key ≡ key_for s.kind h asked = cc in
    let key : c.in-Some.key ≡ key_for s.kind h channel = same ∙ ap (key_for s.kind h) c.get.ensures in
    let none : replaced h channel ≡ None = nothing_replaced s refl h at.legal channel (ap is_plain (sym c.get.ensures) ∙ plain) in
    let full : c.in_ok-new-in-Some.field-0 ≡ key_for s.kind h channel = c.in_ok-new-in-Some.ensures ∙ key in
    let version = c.next_version.ensures s h (base_at m h at) in
    let over : None ≡ told_over s h channel c.in-Write.lineage = ap (λ (o : Option Row). with_left (left_by s.number o) c.in-Write.lineage) (sym none) in
    let told : Written c.in_ok-new-in-Some.field-0 c.next_version.result None ≡ store_due s h (Write channel c.in-Write.value c.in-Write.lineage) = cc in
    told ∙ ap (λ (x : Call). store_due s h x) (sym c.in-Write.is)
