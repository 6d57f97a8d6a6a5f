-- What a `Blob` stands for: what its base stands for, as a store of its kind.
use Rattle.std.specs.Prelude.{ℕ, List}
use Rattle.anti_kind.specs.declared.entry.Entry.{Entry}
use Rattle.anti_kind.specs.Store.{Store}
use Rattle.anti_kind.specs.Starts.{blob_store}
use Rattle.anti_kind.specs.Objects.{Start, store}
use Rattle.anti_replicas.specs.Stores.{number_of, regions_of}
use Rattle.anti_replicas.specs.inner.Standing.{Stands}
use Rattle.anti_blob.specs.declared.blob_store.Blob.{Blob}

abbrev pub its_store : Blob → Store
its_store m = blob_store (number_of m.base) (regions_of m.base)

-- the start of a store of this number with replicas in these regions
abbrev pub blob_start : ℕ → List ℕ → Start
blob_start number regions = store (blob_store number regions)

abbrev pub its_start : Blob → Start
its_start m = store (its_store m)

-- the history that it stands for
abbrev pub BlobStands : Blob → List Entry → Type 0
BlobStands m h = Stands m.base (its_store m) h
