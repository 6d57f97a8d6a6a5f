use Rattle.std.proofs.Common.{refl, sym, ap, subst, ◌∙◌}
use Rattle.anti_kind.specs.declared.call.Call.{Call}
use Rattle.anti_kind.specs.declared.call.Call.TheVariants.{Nack}
use Rattle.anti_kind.specs.Store.{store_due}
use Rattle.anti_kind.specs.Objects.{weight}
use Rattle.anti_replicas.specs.Stores.{IsOther}
use Rattle.anti_queue.specs.QueueStates.{its_store}
use Rattle.anti_queue.proofs.Standing.{base_at, have_spare}
use Rattle.anti_queue.proofs.Pulling.{settleable, settled_out, stands_given_back}
use Rattle.anti_queue.proofs.queue_store.Queue.nack.Goals as goal

pub nack-requires : goal.nack-requires
nack-requires c = settleable c.args.self.now c.requires.history c.args.version c.requires.stands_for c.requires.is_ready

pub sort_in-requires : goal.sort_in-requires
sort_in-requires c = have_spare c.args.self.now c.requires.history c.requires.stands_for.state

pub returns-clause-stands : goal.returns-clause-stands
returns-clause-stands c = λ h e at f is.
    let m = c.args.self.now in
    stands_given_back m c.sort_in.new.self c.note.new.self c.nack.new.self h e at f c.sort_in.ensures.others c.note.ensures.number c.note.ensures.regions c.sort_in.ensures.subs
    (c.note.ensures.stands (its_store m) h e (base_at m h at) f (subst IsOther (sym is) tt) (ap weight (f.reply ∙ ap (λ (x : Call). store_due (its_store m) h x) is)))
    c.args.version is (settled_out m h e (Nack c.args.version) c.args.version f is refl) c.sort_in.ensures.sorted c.nack.ensures.message c.nack.ensures.out
