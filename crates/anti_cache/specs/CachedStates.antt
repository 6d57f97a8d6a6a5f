-- What a `CachedKv` stands for: what its base stands for, and the cache of each region.
use Rattle.std.specs.Prelude.{ℕ, List}
use Rattle.anti_ids.specs.declared.id.WriteId.{WriteId}
use Rattle.anti_kind.specs.declared.call.Call.TheVariants.{Again, Write}
use Rattle.anti_kind.specs.declared.call.Reply.{Reply}
use Rattle.anti_kind.specs.declared.entry.Entry.{Entry}
use Rattle.anti_kind.specs.Machines.{StandsFor, MayMake, MayApply}
use Rattle.anti_kind.specs.Objects.{Start, store}
use Rattle.anti_kind.specs.Starts.{cached_store}
use Rattle.anti_kind.specs.Store.{Store}
use Rattle.anti_replicas.specs.Stores.{number_of, regions_of}
use Rattle.anti_replicas.specs.inner.Standing.{Stands}
use Rattle.anti_cache.specs.declared.cached_store.CachedKv.{CachedKv}
use Rattle.anti_cache.specs.inner.Held.{AreCaches}

abbrev pub its_store : CachedKv → Store
its_store m = cached_store (number_of m.base) (regions_of m.base) m.room

-- the start of a store of this number with replicas in these regions and this room in its caches
abbrev pub cached_start : ℕ → List ℕ → ℕ → Start
cached_start number regions room = store (cached_store number regions room)

abbrev pub its_start : CachedKv → Start
its_start m = store (its_store m)

-- the history that it stands for
pub record CachedStands (m : CachedKv) (h : List Entry) : Type 0 where
  pub base : Stands m.base (its_store m) h
  pub caches : AreCaches m.caches.items m.room h

-- it stands for a legal history of its start
abbrev pub At : CachedKv → List Entry → Type 0
At m h = StandsFor (its_start m) (CachedStands m) h

-- after some history for which it stands a write of the value with the lineage, to some key, is ready and fits, and is due the reply
abbrev pub MayWrite : CachedKv → List ℕ → List WriteId → Reply → Type 0
MayWrite m value lineage reply = (key : List ℕ) × MayApply (its_start m) (CachedStands m) (Write key value lineage) reply

-- after some history for which it stands some part of the version may come again to the region
abbrev pub MayCome : CachedKv → ℕ → ℕ → Type 0
MayCome m region version = (part : ℕ) × MayMake (its_start m) (CachedStands m) (Again region version part)
