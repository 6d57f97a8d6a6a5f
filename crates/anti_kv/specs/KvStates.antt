-- What a `Kv` stands for: what its base stands for, as a store of its kind.
use Rattle.std.specs.Prelude.{ℕ, List}
use Rattle.anti_kind.specs.declared.entry.Entry.{Entry}
use Rattle.anti_kind.specs.Store.{Store}
use Rattle.anti_kind.specs.Starts.{kv_store}
use Rattle.anti_kind.specs.Objects.{Start, store}
use Rattle.anti_replicas.specs.Stores.{number_of, regions_of}
use Rattle.anti_replicas.specs.inner.Standing.{Stands}
use Rattle.anti_kv.specs.declared.kv_store.Kv.{Kv}

abbrev pub its_store : Kv → Store
its_store m = kv_store (number_of m.base) (regions_of m.base)

-- the start of a store of this number with replicas in these regions
abbrev pub kv_start : ℕ → List ℕ → Start
kv_start number regions = store (kv_store number regions)

abbrev pub its_start : Kv → Start
its_start m = store (its_store m)

-- the history that it stands for
abbrev pub KvStands : Kv → List Entry → Type 0
KvStands m h = Stands m.base (its_store m) h
