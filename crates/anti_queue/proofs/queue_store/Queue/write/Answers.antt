use Rattle.std.proofs.Common.{refl, sym, subst}
use Rattle.anti_kind.specs.Store.{Store}
use Rattle.anti_kind.specs.Objects.{store, Follows, IsLegal}
use Rattle.anti_kind.specs.Starts.{IsStart}
use Rattle.anti_kind.specs.Machines.{StandsFor}
use Rattle.anti_queue.specs.QueueStates.{its_store, its_start, QueueStands}
use Rattle.anti_queue.proofs.Standing.{base_at, base_may}
use Rattle.anti_queue.proofs.Written.{stands_written}
use Rattle.anti_queue.proofs.queue_store.Queue.write.Goals as goal

pub write-requires : goal.write-requires
write-requires c = base_may c.args.self.now c.make_room.new.self.base c.args.channel.now c.args.value.now c.args.lineage.now c.args.reply.now c.in_ok-make_room.ensures.base c.requires

pub returns-clause-stands : goal.returns-clause-stands
returns-clause-stands c = λ h e at f is given.
    let lineage = c.args.lineage.now in
    let m = c.make_room.new.self in
    let channel = c.args.channel.now in
    let made = c.in_ok-make_room.ensures in
    let at' : StandsFor (its_start m) (QueueStands m) h = record {
      sane = subst (λ (t : Store). IsStart (store t)) (sym made.store) at.sane;
      legal = subst (λ (t : Store). IsLegal (store t) h) (sym made.store) at.legal;
      state = made.stands h at.state;
    } in
    let f' : Follows (its_start m) h e = subst (λ (t : Store). Follows (store t) h e) (sym made.store) f in
    let wrote = c.in_ok-write.ensures in
    stands_written m h e channel c.args.value.now lineage at' f' is made.room c.write.new.self c.add-2.new.self c.add.new.self
    wrote.number wrote.regions (wrote.stands (its_store m) h e channel (base_at m h at') f' is given)
    (c.add-2.ensures (its_store m) h e c.args.value.now lineage at'.legal f' refl is at'.state.channels)
    c.add.ensures.messages c.add.ensures.out
