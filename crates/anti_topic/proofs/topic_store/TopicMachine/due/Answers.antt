use Rattle.std.proofs.Common.{◌≡◌, Option, Some, None, true, refl, sym, ap, ◌∙◌, is_some}
use Rattle.anti_ids.specs.Names.{is_plain}
use Rattle.anti_kind.specs.declared.call.Call.{Call}
use Rattle.anti_kind.specs.declared.call.Reply.TheVariants.{Written}
use Rattle.anti_kind.specs.declared.call.Call.TheVariants.{Write}
use Rattle.anti_kind.specs.declared.row.Row.{Row}
use Rattle.anti_kind.specs.Store.{key_for, left_by, replaced, store_due, store_ready, told_over, with_left}
use Rattle.anti_kind.proofs.Overs.{nothing_replaced}
use Rattle.anti_kind.proofs.Sources.{pulled_there}
use Rattle.anti_topic.specs.TopicStates.{its_store}
use Rattle.anti_topic.proofs.Pulling.{topic_base}
use Rattle.anti_topic.proofs.topic_store.TopicMachine.due.Goals as goal

pub cell_of-requires-in-Repull : goal.cell_of-requires-in-Repull
cell_of-requires-in-Repull c =
    let m = c.args.self.now in
    let h = c.requires.history in
    let pulled = ap (λ (call : Call). store_ready (its_store m) h call) (sym c.in-Repull.is) ∙ c.requires.is_ready in
    (h, c.requires.stands_for, ap is_some (pulled_there (its_store m) h c.requires.stands_for.legal c.in-Repull.sub c.in-Repull.version pulled).1)

pub returns-in_ok-new-in-Some-clause-due : goal.returns-in_ok-new-in-Some-clause-due
returns-in_ok-new-in-Some-clause-due c = λ h at.
    let m = c.args.self.now in
    let channel = c.in-Write.key in
    let asked = c.get.result.now in
    let plain : is_plain asked ≡ true = ap is_plain c.get.ensures ∙ ap (λ (call : Call). store_ready (its_store m) c.requires.history call) (sym c.in-Write.is) ∙ c.requires.is_ready in
    let found : Some c.in-Some.key ≡ Some (key_for (its_store m).kind h asked) = sym c.in-Some.is ∙ c.next_key.ensures (its_store m) h at.legal at.state.counts refl plain in
    let same : c.in-Some.key ≡ key_for (its_store m).kind h asked = cc in
    let key : c.in-Some.key ≡ key_for (its_store m).kind h channel = same ∙ ap (key_for (its_store m).kind h) c.get.ensures in
    let none : replaced h channel ≡ None = nothing_replaced (its_store m) refl h at.legal channel (ap is_plain (sym c.get.ensures) ∙ plain) in
    let full : c.in_ok-new-in-Some.field-0 ≡ key_for (its_store m).kind h channel = c.in_ok-new-in-Some.ensures ∙ key in
    let version = c.next_version.ensures (its_store m) h (topic_base m h at) in
    let over : None ≡ told_over (its_store m) h channel c.in-Write.lineage = ap (λ (o : Option Row). with_left (left_by (its_store m).number o) c.in-Write.lineage) (sym none) in
    let told : Written c.in_ok-new-in-Some.field-0 c.next_version.result None ≡ store_due (its_store m) h (Write channel c.in-Write.value c.in-Write.lineage) = cc in
    told ∙ ap (λ (call : Call). store_due (its_store m) h call) (sym c.in-Write.is)

pub returns-in-Poll-clause-due : goal.returns-in-Poll-clause-due
returns-in-Poll-clause-due c = λ h at. rw c.in-Poll.is (c.read.ensures (its_store c.args.self.now) h (topic_base c.args.self.now h at))
