-- How an object of an application stands for a history.
use Rattle.std.specs.Prelude.{◌≡◌, ℕ, List, [], Some}
use Rattle.anti_kind.specs.declared.call.Call.{Call}
use Rattle.anti_kind.specs.declared.call.Reply.{Reply}
use Rattle.anti_kind.specs.declared.entry.Entry.{Entry}
use Rattle.anti_kind.specs.Objects.{Start}
use Rattle.anti_kind.specs.Machines.{StandsFor}
use Rattle.anti_kind.specs.Objects as objects
use Rattle.anti_kind.specs.Machines as kind_machines
use Rattle.anti_kv.specs.KvStates as kv
use Rattle.anti_table.specs.TableStates as tables
use Rattle.anti_blob.specs.BlobStates as blobs
use Rattle.anti_queue.specs.QueueStates as queues
use Rattle.anti_topic.specs.TopicStates as topics
use Rattle.anti_cache.specs.CachedStates as caches
use Rattle.anti_inbox.specs.inner.Inboxes as inboxes
use Rattle.anti_kind.specs.declared.store_kind.Sub.{Sub}
use Rattle.anti_kind.specs.Caches.{store_with}
use Rattle.anti_app.specs.declared.app.App.{App}
use Rattle.anti_app.specs.declared.app.StoreDef.{StoreDef}
use Rattle.anti_object.specs.declared.object.Object.{Object}
use Rattle.anti_object.specs.declared.object.Object.TheVariants as machines
use Rattle.anti_object.specs.Starts.{room_of, tries_of, start_of}

-- An object is its machine.

abbrev pub object_start : Object → Start
object_start (machines.Kv m) = kv.its_start m
object_start (machines.Table m) = tables.its_start m
object_start (machines.Blob m) = blobs.its_start m
object_start (machines.Queue m) = queues.its_start m
object_start (machines.Topic m) = topics.its_start m
object_start (machines.Cached m) = caches.its_start m
object_start (machines.Inbox m) = inboxes.start_of m

abbrev pub ObjectStands : Object → List Entry → Type 0
ObjectStands (machines.Kv m) h = kv.KvStands m h
ObjectStands (machines.Table m) h = tables.TableStands m h
ObjectStands (machines.Blob m) h = blobs.BlobStands m h
ObjectStands (machines.Queue m) h = queues.QueueStands m h
ObjectStands (machines.Topic m) h = topics.TopicStands m h
ObjectStands (machines.Cached m) h = caches.CachedStands m h
ObjectStands (machines.Inbox m) h = inboxes.InboxStands m h

-- an object stands for a history that is legal
abbrev pub ObjectAt : Object → List Entry → Type 0
ObjectAt o h = StandsFor (object_start o) (ObjectStands o) h

-- after some history for which the object stands the call is ready and fits, and is due this reply
abbrev pub MayApply : Object → Call → Reply → Type 0
MayApply o c r = kind_machines.MayApply (object_start o) (ObjectStands o) c r

-- the object with a number, on which nothing has happened yet
pub record IsNew (app : App) (number : ℕ) (o : Object) : Type 0 where
  pub start : start_of app number ≡ Some (object_start o)
  pub stands : ObjectAt o []

-- a store with these subscriptions
abbrev pub start_with : ℕ → StoreDef → List Sub → Start
start_with number s subs = objects.store (store_with s.kind number s.replicas.items subs (tries_of s) (room_of s))

-- the object of such a store, on which nothing has happened yet
pub record IsNewStore (number : ℕ) (s : StoreDef) (subs : List Sub) (o : Object) : Type 0 where
  pub start : object_start o ≡ start_with number s subs
  pub stands : ObjectStands o []
