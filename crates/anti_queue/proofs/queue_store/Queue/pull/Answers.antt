use Rattle.std.proofs.Common.{sym, ap, subst, ◌∙◌}
use Rattle.anti_kind.specs.declared.call.Call.{Call}
use Rattle.anti_kind.specs.Store.{store_due}
use Rattle.anti_kind.specs.Objects.{weight}
use Rattle.anti_replicas.specs.Stores.{IsOther}
use Rattle.anti_queue.specs.QueueStates.{its_store}
use Rattle.anti_queue.proofs.Standing.{base_at, have_spare}
use Rattle.anti_queue.proofs.Pulling.{pullable, stands_pulled}
use Rattle.anti_queue.proofs.queue_store.Queue.pull.Goals as goal

pub pull-requires : goal.pull-requires
pull-requires c = pullable c.args.self.now c.args.sub c.next_version-version.result c.next_version-version.ensures c.requires

pub sort_in-requires : goal.sort_in-requires
sort_in-requires c = have_spare c.args.self.now c.requires.history c.requires.stands_for.state

pub returns-clause-stands : goal.returns-clause-stands
returns-clause-stands c = λ h e at f is.
    let m = c.args.self.now in
    stands_pulled m c.sort_in.new.self c.note.new.self c.pull.new.self h e at f c.sort_in.ensures.others c.note.ensures.number c.note.ensures.regions c.sort_in.ensures.subs
    (c.note.ensures.stands (its_store m) h e (base_at m h at) f (subst IsOther (sym is) tt) (ap weight (f.reply ∙ ap (λ (x : Call). store_due (its_store m) h x) is)))
    c.args.sub c.next_version-version.result is (c.next_version-version.ensures h at) c.sort_in.ensures.sorted c.pull.ensures.message c.pull.ensures.out
