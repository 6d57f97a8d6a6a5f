-- A queue to which one message more was written.
use Rattle.std.proofs.Common.{◌≡◌, ℕ, ◌+◌, ◌<◌, ◌≤◌, Bool, true, false, cond, List, [], ◌∷◌, ◌++◌, length, get_or, count_by, refl, sym, ap, ◌∙◌, arith}
use Rattle.std.specs.Prelude.{bytes_eq}
use Rattle.std.specs.VecDeque.{deque_capacity}
use Rattle.anti_ids.specs.declared.id.WriteId.{WriteId}
use Rattle.anti_kind.specs.declared.call.Call.TheVariants.{Write}
use Rattle.anti_kind.specs.declared.entry.Entry.{Entry}
use Rattle.anti_kind.specs.declared.row.Row.{Row}
use Rattle.anti_kind.specs.Stored.{rows, is_in}
use Rattle.anti_kind.specs.Store.{Store, is_pull}
use Rattle.anti_kind.specs.Objects.{Follows}
use Rattle.anti_kind.specs.Machines.{StandsFor}
use Rattle.anti_kind.proofs.Handed.{settles_by, outs_write}
use Rattle.anti_kind.proofs.Rows.{is_shipping, new_row, rows_write, shipped_other}
use Rattle.anti_kind.proofs.Shipped.{never_shipped}
use Rattle.anti_kind.proofs.Showing.{bytes_same}
use Rattle.anti_replicas.specs.declared.replicas.Replicas.{Replicas}
use Rattle.anti_replicas.specs.declared.channels.Channels.{Channels}
use Rattle.anti_replicas.specs.Channels.{count_at, Counts}
use Rattle.anti_replicas.specs.Stores.{number_of, regions_of}
use Rattle.anti_replicas.specs.inner.Standing.{Stands}
use Rattle.anti_replicas.proofs.Counting.{count_write, few_writes}
use Rattle.anti_queue.specs.declared.message_states.MessageStates.{MessageStates}
use Rattle.anti_queue.specs.declared.queue_store.Queue.{Queue}
use Rattle.anti_queue.specs.declared.subscribers.Subscriber.{Subscriber}
use Rattle.anti_queue.specs.inner.Marks.{new_message}
use Rattle.anti_queue.specs.inner.Lists.{subs_of, HasFree}
use Rattle.anti_queue.specs.QueueStates.{its_store, its_start, QueueStands, HasRoom}
use Rattle.anti_queue.proofs.Marking.{SameMarks, same_other, unwritten_marks, messages_written}
use Rattle.anti_queue.proofs.Listing.{free_written}
use Rattle.anti_queue.proofs.Standing.{same_store, stands_as}

module _ (m : Queue) (h : List Entry) (e : Entry) (channel value : List ℕ) (lineage : List WriteId) (at : StandsFor (its_start m) (QueueStands m) h) (f : Follows (its_start m) h e) (is : e.call ≡ Write channel value lineage) (room : HasRoom m channel) where
  abbrev the_row : Row
  the_row = new_row (its_store m) h channel value lineage

  more_rows : rows (h ++ e ∷ []) ≡ rows h ++ the_row ∷ []
  more_rows = rows_write (its_store m) h e channel value lineage f is

  same : (v : ℕ) → SameMarks h (h ++ e ∷ []) v
  same = same_other h e (ap is_pull is) (ap settles_by is)

  -- the lists of the channel have room for two messages more, and now for one
  still_room : (i : ℕ) (d : Subscriber) → i < length m.subscribers.list.items
      → count_by (is_in (get_or m.subscribers.list.items i d).sub.channel) (rows (h ++ e ∷ [])) < deque_capacity (get_or m.subscribers.list.items i d).free.versions
  still_room i d short = by_channel (bytes_eq channel (get_or m.subscribers.list.items i d).sub.channel) refl where
    by_channel : (b : Bool) → bytes_eq channel (get_or m.subscribers.list.items i d).sub.channel ≡ b
        → count_by (is_in (get_or m.subscribers.list.items i d).sub.channel) (rows (h ++ e ∷ [])) < deque_capacity (get_or m.subscribers.list.items i d).free.versions
    by_channel true on =
        let x : Subscriber = get_or m.subscribers.list.items i d in
        let same_channel : channel ≡ x.sub.channel = bytes_same channel x.sub.channel on in
        let few : count_by (is_in channel) (rows h) ≤ 4097 = few_writes (its_store m) h at.legal channel in
        let count : count_at m.channels channel ≡ count_by (is_in channel) (rows h) = at.state.channels.counted channel in
        let two : count_at m.channels channel + 2 ≤ deque_capacity x.free.versions = room.free (omega arith) i d short (sym same_channel) in
        let more : count_by (is_in x.sub.channel) (rows (h ++ e ∷ [])) ≡ count_by (is_in x.sub.channel) (rows h) + 1 =
        count_write (its_store m) refl h e channel value lineage f is x.sub.channel ∙ ap (λ (b : Bool). count_by (is_in x.sub.channel) (rows h) + cond b 1 0) on in
        let there : count_by (is_in x.sub.channel) (rows h) ≡ count_by (is_in channel) (rows h) = ap (λ (c : List ℕ). count_by (is_in c) (rows h)) (sym same_channel) in
        omega arith
    by_channel false off =
        let x : Subscriber = get_or m.subscribers.list.items i d in
        let kept : count_by (is_in x.sub.channel) (rows (h ++ e ∷ [])) ≡ count_by (is_in x.sub.channel) (rows h) + 0 =
        count_write (its_store m) refl h e channel value lineage f is x.sub.channel ∙ ap (λ (b : Bool). count_by (is_in x.sub.channel) (rows h) + cond b 1 0) off in
        let has : HasFree (its_store m) h x = at.state.free i d short in
        omega (arith, has.room)

  pub stands_written : (b : Replicas) (cs : Channels) (ms : MessageStates) → number_of b ≡ number_of m.base → regions_of b ≡ regions_of m.base → Stands b (its_store m) (h ++ e ∷ []) → Counts cs (h ++ e ∷ [])
      → ms.list.items ≡ m.messages.list.items ++ new_message ∷ [] → ms.out ≡ m.messages.out → QueueStands (record m { base = b; channels = cs; messages = ms }) (h ++ e ∷ [])
  stands_written b cs ms number regions stands counts more out =
      let s : Store = its_store m in
      let n : Queue = record m { base = b; channels = cs; messages = ms } in
      stands_as n s (h ++ e ∷ []) (same_store m n number regions refl refl) stands counts
      (messages_written m.messages ms h (h ++ e ∷ []) the_row new_message more_rows more out
      (outs_write s refl h e channel value lineage at.legal f is) same (unwritten_marks s refl h at.legal (length (rows h) + 1) (omega arith)) at.state.messages)
      (λ i d short.
      free_written (number_of m.base) (regions_of m.base) (subs_of m.subscribers) m.tries h (h ++ e ∷ []) the_row (get_or m.subscribers.list.items i d) more_rows same
      (λ g v. shipped_other h e g v 1 (ap is_shipping is))
      (λ g. shipped_other h e g (length (rows h) + 1) 1 (ap is_shipping is) ∙ never_shipped s h at.legal g (length (rows h) + 1) 1 (omega arith))
      (still_room i d short) (at.state.free i d short))
