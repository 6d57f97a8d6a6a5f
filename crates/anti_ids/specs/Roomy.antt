-- What a contract sees of a `Roomy`: its ids, and its room.
use Rattle.std.specs.Prelude.{ℕ, List}
use Rattle.anti_ids.specs.declared.id.WriteId.{WriteId}

-- The ids of a lineage, and how many more are added to it without memory.
pub record Roomed : Type 0 where
  pub ids : List WriteId
  pub spare : ℕ
