use Rattle.std.proofs.Common.{◌<◌, length, refl, arith}
use Rattle.anti_replicas.specs.Stores.{number_of, regions_of}
use Rattle.anti_queue.specs.declared.queue_store.Queue.{Queue}
use Rattle.anti_queue.specs.inner.Lists.{subs_of}
use Rattle.anti_queue.specs.QueueStates.{its_store}
use Rattle.anti_queue.proofs.Listed.{subs_kept}
use Rattle.anti_queue.proofs.Listing.{with_more_room}
use Rattle.anti_queue.proofs.Standing.{same_store, stands_as}
use Rattle.anti_queue.proofs.queue_store.Queue.make_room.Goals as goal

pub returns-clause-store : goal.returns-clause-store
returns-clause-store c =
    let m = c.args.self.now in
    let more = c.make_room-2.ensures.more in
    let n : Queue = record m { channels = c.make_place.new.self; subscribers = c.make_room-2.new.self; messages = c.make_room.new.self } in
    same_store m n refl refl (subs_kept m.subscribers.list.items n.subscribers.list.items more.many (λ i d short. (more.each i d short).sub)) refl

pub returns-clause-stands : goal.returns-clause-stands
returns-clause-stands c = λ h state.
    let m = c.args.self.now in
    let more = c.make_room-2.ensures.more in
    let n : Queue = record m { channels = c.make_place.new.self; subscribers = c.make_room-2.new.self; messages = c.make_room.new.self } in
    stands_as n (its_store m) h (returns-clause-store c) state.base
    (c.make_place.ensures.counts h state.channels)
    (c.make_room.ensures.messages h state.messages)
    (λ i d short.
    let within : i < length m.subscribers.list.items = omega (arith, more.many) in
    with_more_room (number_of m.base) (regions_of m.base) (subs_of m.subscribers) m.tries h _ _ (more.each i d within) (state.free i d within))
