-- What a `Queue` stands for: what its base stands for, as a store of its kind, with its messages, and with what is free for each
-- subscription.
use Rattle.std.specs.Prelude.{◌≡◌, ℕ, ◌+◌, ◌^◌, ◌<◌, List, [], ◌∷◌, ◌++◌}
use Rattle.std.specs.Vec.{vec_len, vec_capacity}
use Rattle.anti_ids.specs.declared.id.WriteId.{WriteId}
use Rattle.anti_kind.specs.declared.call.Call.{Call}
use Rattle.anti_kind.specs.declared.call.Call.TheVariants.{Write, Again, Look}
use Rattle.anti_kind.specs.declared.call.Reply.{Reply}
use Rattle.anti_kind.specs.declared.entry.Entry.{Entry}
use Rattle.anti_kind.specs.Store.{Store}
use Rattle.anti_kind.specs.Starts.{queue_store}
use Rattle.anti_kind.specs.Objects.{Start, store, Follows}
use Rattle.anti_kind.specs.Machines.{StandsFor, MayMake, MayApply}
use Rattle.anti_replicas.specs.Channels.{count_at, HasChannel, Counts}
use Rattle.anti_replicas.specs.Stores.{number_of, regions_of}
use Rattle.anti_replicas.specs.inner.Standing.{Stands}
use Rattle.anti_queue.specs.declared.queue_store.Queue.{Queue}
use Rattle.anti_queue.specs.inner.Marks.{AreMessages}
use Rattle.anti_queue.specs.inner.Lists.{subs_of, HaveFree, HaveRoom}

abbrev pub its_store : Queue → Store
its_store m = queue_store (number_of m.base) (regions_of m.base) (subs_of m.subscribers) m.tries

abbrev pub its_start : Queue → Start
its_start m = store (its_store m)

-- the history that it stands for
pub record QueueStands (m : Queue) (h : List Entry) : Type 0 where
  pub base : Stands m.base (its_store m) h
  pub channels : Counts m.channels h
  pub messages : AreMessages m.messages h
  pub free : HaveFree (its_store m) h m.subscribers.list.items

-- some history for which it stands has the call ready, and it fits
abbrev pub MayCall : Queue → Call → Type 0
MayCall m c = MayMake (its_start m) (QueueStands m) c

-- and a write of the value to the channel, with the lineage, which is due the reply
abbrev pub MayWriteTo : Queue → List ℕ → List ℕ → List WriteId → Reply → Type 0
MayWriteTo m channel value lineage reply = MayApply (its_start m) (QueueStands m) (Write channel value lineage) reply

-- n stands for what m stands for, with an entry of the call
abbrev pub Makes : Queue → Call → Queue → Type 0
Makes m c n =
    (h : List Entry) (e : Entry) → StandsFor (its_start m) (QueueStands m) h → Follows (its_start m) h e → e.call ≡ c → QueueStands n (h ++ e ∷ [])

-- a ready call that writes, ships, hands out and settles nothing
abbrev pub IsQuiet : Call → Type 0
IsQuiet (Again region version part) = Unit {0}
IsQuiet (Look region ids dry) = Unit {0}
IsQuiet _ = ⊥

-- it has room for one more message of the channel
pub record HasRoom (m : Queue) (channel : List ℕ) : Type 0 where
  pub place : HasChannel m.channels channel
  pub message : vec_len m.messages.list < vec_capacity m.messages.list
  pub free : count_at m.channels channel + 2 < 2 ^ 64 → HaveRoom channel (count_at m.channels channel + 2) m.subscribers.list.items
