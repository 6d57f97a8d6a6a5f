-- What a `Topic` stands for: what its base and its channels stand for, and how far each subscription has come.
use Rattle.std.specs.Prelude.{◌≡◌, ℕ, List, length}
use Rattle.anti_ids.specs.declared.id.WriteId.{WriteId}
use Rattle.anti_kind.specs.declared.call.Call.TheVariants.{Write}
use Rattle.anti_kind.specs.declared.call.Reply.{Reply}
use Rattle.anti_kind.specs.declared.entry.Entry.{Entry}
use Rattle.anti_kind.specs.declared.store_kind.Sub.{Sub}
use Rattle.anti_kind.specs.Store.{Store}
use Rattle.anti_kind.specs.Starts.{topic_store}
use Rattle.anti_kind.specs.Objects.{Start, store}
use Rattle.anti_kind.specs.Machines.{StandsFor, MayApply}
use Rattle.anti_replicas.specs.Channels.{Counts}
use Rattle.anti_replicas.specs.Stores.{number_of, regions_of}
use Rattle.anti_replicas.specs.inner.Standing.{Stands}
use Rattle.anti_topic.specs.declared.topic_store.Topic.{Topic}
use Rattle.anti_topic.specs.inner.Cursors.{AreCursors}

abbrev pub its_store : Topic → Store
its_store m = topic_store (number_of m.base) (regions_of m.base) m.subs.items

-- the start of a topic of this number with replicas in these regions and these subscriptions
abbrev pub topic_start : ℕ → List ℕ → List Sub → Start
topic_start number regions subs = store (topic_store number regions subs)

abbrev pub its_start : Topic → Start
its_start m = store (its_store m)

-- the history that it stands for
pub record TopicStands (m : Topic) (h : List Entry) : Type 0 where
  pub base : Stands m.base (its_store m) h
  pub counts : Counts m.channels h
  pub many : length m.cursors.items ≡ length m.subs.items
  pub cursors : AreCursors m.subs.items m.cursors.items h

-- it stands for a legal history of its start
abbrev pub At : Topic → List Entry → Type 0
At m h = StandsFor (its_start m) (TopicStands m) h

-- after some history for which it stands a write of the value to the channel, with the lineage, is ready and fits, and is due the reply
abbrev pub MayWriteTo : Topic → List ℕ → List ℕ → List WriteId → Reply → Type 0
MayWriteTo m channel value lineage reply = MayApply (its_start m) (TopicStands m) (Write channel value lineage) reply
