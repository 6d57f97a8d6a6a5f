-- An object that is a store keeps the laws of its kind.
use Rattle.std.specs.Prelude.{◌≡◌}
use Rattle.anti_kind.specs.Store.{Store}
use Rattle.anti_kind.specs.Objects.{store}
use Rattle.anti_kind.specs.Laws.{KeepsLaws}
use Rattle.anti_kv.specs.KvLaws.{kv_keeps}
use Rattle.anti_table.specs.TableLaws.{table_keeps}
use Rattle.anti_blob.specs.BlobLaws.{blob_keeps}
use Rattle.anti_queue.specs.QueueLaws.{queue_keeps}
use Rattle.anti_topic.specs.TopicLaws.{topic_keeps}
use Rattle.anti_cache.specs.CachedLaws.{cached_keeps}
use Rattle.anti_object.specs.declared.object.Object.{Object}
use Rattle.anti_object.specs.declared.object.Object.TheVariants as machines
use Rattle.anti_object.specs.Standing.{object_start}

pub object_keeps : (o : Object) (s : Store) → object_start o ≡ store s → KeepsLaws s
object_keeps (machines.Kv m) s is = kv_keeps m s is
object_keeps (machines.Table m) s is = table_keeps m s is
object_keeps (machines.Blob m) s is = blob_keeps m s is
object_keeps (machines.Queue m) s is = queue_keeps m s is
object_keeps (machines.Topic m) s is = topic_keeps m s is
object_keeps (machines.Cached m) s is = cached_keeps m s is
object_keeps (machines.Inbox m) s is = absurd (cc)
