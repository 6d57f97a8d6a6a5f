use Rattle.std.proofs.Common.{refl}
use Rattle.anti_queue.specs.QueueStates.{its_store}
use Rattle.anti_queue.proofs.Standing.{base_at, have_spare}
use Rattle.anti_queue.proofs.Pulling.{stands_shipped}
use Rattle.anti_queue.proofs.queue_store.Queue.ship.Goals as goal

pub sort_in-requires : goal.sort_in-requires
sort_in-requires c = have_spare c.args.self.now c.requires.history c.requires.stands_for.state

pub returns-clause-stands : goal.returns-clause-stands
returns-clause-stands c = λ h e at f is.
    let m = c.args.self.now in
    stands_shipped m c.sort_in.new.self c.ship.new.self m.messages h e at f c.sort_in.ensures.others c.ship.ensures.number c.ship.ensures.regions c.sort_in.ensures.subs
    (c.ship.ensures.stands (its_store m) h e (base_at m h at) f is) c.args.region c.args.version c.args.part is refl c.sort_in.ensures.sorted
