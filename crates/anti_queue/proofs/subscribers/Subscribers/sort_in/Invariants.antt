use Rattle.std.proofs.Common.{◌≡◌, ℕ, ◌<◌, ◌≤◌, List, length, get_or}
use Rattle.anti_kind.specs.declared.entry.Entry.{Entry}
use Rattle.anti_kind.specs.Store.{Store}
use Rattle.anti_replicas.specs.Stores.{At}
use Rattle.anti_queue.specs.declared.subscribers.Subscriber.{Subscriber}
use Rattle.anti_queue.specs.inner.Lists.{IsSorted}
use Rattle.anti_queue.proofs.subscribers.Subscribers.sort_in.Given as goal

-- those before the index are sorted, and those from it on are as they were
abbrev pub invariant-loop-subscriber : goal.invariant-loop-subscriber
invariant-loop-subscriber l = record {
  many : length l.subscriber-items ≡ length l.initial.subscriber-items;
  sorted : (s : Store) (h : List Entry) → At l.base s h
      → (k : ℕ) (d : Subscriber) → k < l.subscriber-index → IsSorted h l.version l.can_go_out (get_or l.initial.subscriber-items k d) (get_or l.subscriber-items k d);
  subs : (k : ℕ) (d : Subscriber) → (get_or l.subscriber-items k d).sub ≡ (get_or l.initial.subscriber-items k d).sub;
  rest : (k : ℕ) (d : Subscriber) → l.subscriber-index ≤ k → get_or l.subscriber-items k d ≡ get_or l.initial.subscriber-items k d;
}
