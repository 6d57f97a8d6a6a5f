use Rattle.std.proofs.Common.{◌≡◌, ℕ, ◌<◌, ◌≤◌, get_or}
use Rattle.std.specs.VecDeque.{deque_capacity}
use Rattle.anti_queue.specs.declared.subscribers.Subscriber.{Subscriber}
use Rattle.anti_queue.specs.inner.Lists.{HaveMoreRoom}
use Rattle.anti_queue.proofs.subscribers.Subscribers.make_room.Given as goal

abbrev pub invariant-loop-subscriber : goal.invariant-loop-subscriber
invariant-loop-subscriber l = record {
  more : HaveMoreRoom l.initial.subscriber-items l.subscriber-items;
  room : (k : ℕ) (d : Subscriber) → k < l.subscriber-index → (get_or l.subscriber-items k d).sub.channel ≡ l.channel → l.messages ≤ deque_capacity (get_or l.subscriber-items k d).free.versions;
}
