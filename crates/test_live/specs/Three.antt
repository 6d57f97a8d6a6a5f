-- The stores of the crowd.
use Rattle.std.specs.Prelude.{◌≡◌, List, length, Some, slice_get}
use Rattle.anti_live.specs.declared.stores.LiveKind.TheVariants.{Table}
use Rattle.anti_live.specs.declared.stores.LiveStore.{LiveStore}

-- Three stores, of which the second is a table.
pub record AreThree (stores : List LiveStore) : Type 0 where
  pub count : length stores ≡ 3
  pub table : (s : LiveStore) → slice_get stores 1 ≡ Some s → s.kind ≡ Table
