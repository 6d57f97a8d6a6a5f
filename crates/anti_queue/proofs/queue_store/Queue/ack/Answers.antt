use Rattle.std.proofs.Common.{refl, sym, ap, subst, ◌∙◌}
use Rattle.anti_kind.specs.declared.call.Call.{Call}
use Rattle.anti_kind.specs.declared.call.Call.TheVariants.{Ack}
use Rattle.anti_kind.specs.Store.{store_due}
use Rattle.anti_kind.specs.Objects.{weight}
use Rattle.anti_replicas.specs.Stores.{IsOther}
use Rattle.anti_queue.specs.QueueStates.{its_store}
use Rattle.anti_queue.proofs.Standing.{base_at}
use Rattle.anti_queue.proofs.Pulling.{settleable, settled_out, stands_acked}
use Rattle.anti_queue.proofs.queue_store.Queue.ack.Goals as goal

pub ack-requires : goal.ack-requires
ack-requires c = settleable c.args.self.now c.requires.history c.args.version c.requires.stands_for c.requires.is_ready

pub returns-clause-stands : goal.returns-clause-stands
returns-clause-stands c = λ h e at f is.
    let m = c.args.self.now in
    stands_acked m c.note.new.self c.ack.new.self h e at f c.args.version is (settled_out m h e (Ack c.args.version) c.args.version f is refl) c.note.ensures.number c.note.ensures.regions
    (c.note.ensures.stands (its_store m) h e (base_at m h at) f (subst IsOther (sym is) tt) (ap weight (f.reply ∙ ap (λ (x : Call). store_due (its_store m) h x) is)))
    c.ack.ensures.message c.ack.ensures.out
