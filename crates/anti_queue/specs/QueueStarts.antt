-- What a queue starts as.
use Rattle.std.specs.Prelude.{ℕ, List}
use Rattle.anti_kind.specs.declared.store_kind.Sub.{Sub}
use Rattle.anti_kind.specs.Starts.{queue_store}
use Rattle.anti_kind.specs.Objects.{Start, store}

-- the start of a store of this number with replicas in these regions and these subscriptions, which hands a message out so many
-- times at most
abbrev pub queue_start : ℕ → List ℕ → List Sub → ℕ → Start
queue_start number regions subs tries = store (queue_store number regions subs tries)
