-- A queue that made one call more stands for the history with that call.
use Rattle.std.proofs.Common.{◌≡◌, ℕ, ◌<◌, ◌≤◌, false, List, [], ◌∷◌, ◌++◌, length, get_or, refl, sym, ap, subst, ◌∙◌, arith}
use Rattle.anti_kind.specs.declared.call.Reply.{Reply}
use Rattle.anti_ids.specs.declared.id.WriteId.{WriteId}
use Rattle.anti_kind.specs.declared.entry.Entry.{Entry}
use Rattle.anti_kind.specs.Stored.{rows, is_shipped}
use Rattle.anti_kind.specs.Store.{Store, is_pull}
use Rattle.anti_kind.specs.Starts.{queue_store}
use Rattle.anti_kind.specs.Objects.{Follows}
use Rattle.anti_kind.specs.Machines.{StandsFor}
use Rattle.anti_kind.proofs.Handed.{settles_by, outs_other}
use Rattle.anti_kind.proofs.Histories.{legal_more}
use Rattle.anti_kind.proofs.Rows.{is_write, is_shipping, rows_other, shipped_other}
use Rattle.anti_replicas.specs.declared.replicas.Replicas.{Replicas}
use Rattle.anti_replicas.specs.declared.channels.Channels.{Channels}
use Rattle.anti_replicas.specs.Channels.{Counts}
use Rattle.anti_replicas.specs.Stores.{At, MayWrite, number_of, regions_of}
use Rattle.anti_replicas.specs.inner.Standing.{Stands}
use Rattle.anti_replicas.proofs.Counting.{counts_other}
use Rattle.anti_queue.specs.declared.message_states.MessageStates.{MessageStates}
use Rattle.anti_queue.specs.declared.queue_store.Queue.{Queue}
use Rattle.anti_queue.specs.inner.Marks.{AreMessages, can_go_out}
use Rattle.anti_queue.specs.inner.Lists.{subs_of, HaveFree, HaveSpare, AreSorted}
use Rattle.anti_queue.specs.QueueStates.{its_store, its_start, QueueStands, MayWriteTo}
use Rattle.anti_queue.proofs.Marking.{SameMarks, same_other, messages_kept}
use Rattle.anti_queue.proofs.Listing.{has_spare, free_same, free_kept, free_sorted}

-- A queue is the same store, where these stay.

pub same_store : (m n : Queue) → number_of n.base ≡ number_of m.base → regions_of n.base ≡ regions_of m.base → subs_of n.subscribers ≡ subs_of m.subscribers → n.tries ≡ m.tries → its_store n ≡ its_store m
same_store m n number regions subs tries = λ i. queue_store (number i) (regions i) (subs i) (tries i)

-- It stands for a history as another store that it is, too.
pub stands_as : (n : Queue) (s : Store) (k : List Entry) → its_store n ≡ s → Stands n.base s k → Counts n.channels k → AreMessages n.messages k → HaveFree s k n.subscribers.list.items → QueueStands n k
stands_as n s k is base channels messages free = record {
  base = subst (λ (t : Store). Stands n.base t k) (sym is) base;
  channels = channels;
  messages = messages;
  free = subst (λ (t : Store). HaveFree t k n.subscribers.list.items) (sym is) free;
}

pub base_at : (m : Queue) (h : List Entry) → StandsFor (its_start m) (QueueStands m) h → At m.base (its_store m) h
base_at m h at = record { sane = at.sane; legal = at.legal; state = at.state.base }

pub base_next : (m : Queue) (b : Replicas) (h : List Entry) (e : Entry) → StandsFor (its_start m) (QueueStands m) h → Follows (its_start m) h e → Stands b (its_store m) (h ++ e ∷ []) → At b (its_store m) (h ++ e ∷ [])
base_next m b h e at f stands = record { sane = at.sane; legal = legal_more (its_start m) h e at.legal f; state = stands }

-- a write that may be made may be made of the base
pub base_may : (m : Queue) (b : Replicas) (channel value : List ℕ) (lineage : List WriteId) (reply : Reply) → b ≡ m.base → MayWriteTo m channel value lineage reply → MayWrite b value lineage reply
base_may m b channel value lineage reply same may = (
  its_store m,
  channel,
  record {
    may = record {
      history = may.may.history;
      stands_for = subst (λ (x : Replicas). At x (its_store m) may.may.history) (sym same) (base_at m may.may.history may.may.stands_for);
      is_ready = may.may.is_ready;
      fits = may.may.fits;
    };
    is_due = may.is_due;
  },
)

-- each list has room for one version more
pub have_spare : (m : Queue) (h : List Entry) → QueueStands m h → HaveSpare m.subscribers.list.items
have_spare m h state i d short =
    has_spare (number_of m.base) (regions_of m.base) (subs_of m.subscribers) m.tries h (get_or m.subscribers.list.items i d) (state.free i d short)

-- A call after which one message is sorted in.
module _ (m n : Queue) (b : Replicas) (ms : MessageStates) (h : List Entry) (e : Entry) (v : ℕ)
    (at : StandsFor (its_start m) (QueueStands m) h) (f : Follows (its_start m) h e) (writes : is_write e.call ≡ false)
    (others : n ≡ record m { base = b; messages = ms; subscribers = n.subscribers }) (number : number_of b ≡ number_of m.base) (regions : regions_of b ≡ regions_of m.base)
    (subs : subs_of n.subscribers ≡ subs_of m.subscribers) where
  pub sorted_store : its_store n ≡ its_store m
  sorted_store =
      same_store m n
      (ap (λ (q : Queue). number_of q.base) others ∙ number)
      (ap (λ (q : Queue). regions_of q.base) others ∙ regions)
      subs
      (ap (λ (q : Queue). q.tries) others)

  pub stands_sorted : Stands b (its_store m) (h ++ e ∷ []) → AreMessages ms (h ++ e ∷ []) → 1 ≤ v → v ≤ length (rows h)
      → ((w : ℕ) → (v ≡ w → ⊥) → SameMarks h (h ++ e ∷ []) w) → ((g w : ℕ) → (v ≡ w → ⊥) → is_shipped (h ++ e ∷ []) g w 1 ≡ is_shipped h g w 1)
      → AreSorted (h ++ e ∷ []) v (can_go_out (h ++ e ∷ []) v m.tries) m.subscribers.list.items n.subscribers.list.items → QueueStands n (h ++ e ∷ [])
  stands_sorted stands messages first within same shipped sorted =
      stands_as n (its_store m) (h ++ e ∷ []) sorted_store
      (subst (λ (x : Replicas). Stands x (its_store m) (h ++ e ∷ [])) (sym (ap (λ (q : Queue). q.base) others)) stands)
      (subst (λ (x : Channels). Counts x (h ++ e ∷ [])) (sym (ap (λ (q : Queue). q.channels) others)) (counts_other m.channels h e writes at.state.channels))
      (subst (λ (x : MessageStates). AreMessages x (h ++ e ∷ [])) (sym (ap (λ (q : Queue). q.messages) others)) messages)
      (λ i d short.
      let within' : i < length m.subscribers.list.items = omega (arith, sorted.many) in
      free_sorted (number_of m.base) (regions_of m.base) (subs_of m.subscribers) m.tries h (h ++ e ∷ []) v
      (get_or m.subscribers.list.items i d) (get_or n.subscribers.list.items i d) (legal_more (its_start m) h e at.legal f) (rows_other h e writes) first within same shipped (sorted.each i d within') (at.state.free i d within'))

-- A call that writes, ships, hands out and settles nothing: only the units that are held grow.
pub stands_other : (m : Queue) (b : Replicas) (h : List Entry) (e : Entry) → StandsFor (its_start m) (QueueStands m) h → is_write e.call ≡ false → is_shipping e.call ≡ false → is_pull e.call ≡ false → settles_by e.call ≡ false
    → number_of b ≡ number_of m.base → regions_of b ≡ regions_of m.base → Stands b (its_store m) (h ++ e ∷ []) → QueueStands (record m { base = b }) (h ++ e ∷ [])
stands_other m b h e at writes ships pulling settling number regions stands =
    let n : Queue = record m { base = b } in
    stands_as n (its_store m) (h ++ e ∷ []) (same_store m n number regions refl refl) stands
    (counts_other m.channels h e writes at.state.channels)
    (messages_kept m.messages h (h ++ e ∷ []) (rows_other h e writes) (same_other h e pulling settling) (outs_other h e writes pulling settling) at.state.messages)
    (λ i d short.
    free_kept (number_of m.base) (regions_of m.base) (subs_of m.subscribers) m.tries h (h ++ e ∷ []) (get_or m.subscribers.list.items i d) (rows_other h e writes)
    (λ r. free_same (number_of m.base) (regions_of m.base) (subs_of m.subscribers) m.tries h (h ++ e ∷ []) (get_or m.subscribers.list.items i d).sub r (same_other h e pulling settling r.version) (shipped_other h e (get_or m.subscribers.list.items i d).sub.region r.version 1 ships))
    (at.state.free i d short))
