-- What a `Table` stands for: what its base stands for, as a store of its kind.
use Rattle.std.specs.Prelude.{ℕ, List}
use Rattle.anti_kind.specs.declared.entry.Entry.{Entry}
use Rattle.anti_kind.specs.Store.{Store}
use Rattle.anti_kind.specs.Starts.{table_store}
use Rattle.anti_kind.specs.Objects.{Start, store}
use Rattle.anti_replicas.specs.Stores.{number_of, regions_of}
use Rattle.anti_replicas.specs.inner.Standing.{Stands}
use Rattle.anti_table.specs.declared.table_store.Table.{Table}

abbrev pub its_store : Table → Store
its_store m = table_store (number_of m.base) (regions_of m.base)

-- the start of a store of this number with replicas in these regions
abbrev pub table_start : ℕ → List ℕ → Start
table_start number regions = store (table_store number regions)

abbrev pub its_start : Table → Start
its_start m = store (its_store m)

-- the history that it stands for
abbrev pub TableStands : Table → List Entry → Type 0
TableStands m h = Stands m.base (its_store m) h
