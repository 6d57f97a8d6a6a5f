-- How a lineage holds its ids.
use Rattle.std.specs.Prelude.{ℕ, ◌*◌, ◌≤◌, List, drop, length, take}
use Rattle.anti_ids.specs.declared.id.WriteId.{WriteId}
use Rattle.anti_ids.specs.declared.held_ids.HeldIds.{HeldIds}
use Rattle.anti_ids.specs.declared.held_ids.HeldIds.TheVariants.{Own, Short, Long}
use Rattle.anti_ids.specs.Invariants.{IsLineage}
use Rattle.anti_ids.specs.inner.Left.{left_of}

-- the ids in memory
abbrev pub base_ids : HeldIds → List WriteId
base_ids (Own ids) = ids.items
base_ids (Short short) = short.block
base_ids (Long long) = long.block

-- the ids that are held: those in memory without the ones that are gone
abbrev pub held_ids : HeldIds → List WriteId
held_ids (Own ids) = ids.items
held_ids (Short short) = left_of short.words 0 short.block
held_ids (Long long) = left_of long.words.value 0 long.block

-- of a range of those in memory the ones that are held
abbrev pub range_of : ℕ → ℕ → HeldIds → List WriteId
range_of from len (Own ids) = take len (drop from ids.items)
range_of from len (Short short) = left_of short.words from (take len (drop from short.block))
range_of from len (Long long) = left_of long.words.value from (take len (drop from long.block))

-- how many ids in memory it can hold: of a block as many as have a mark
abbrev pub room_of : HeldIds → ℕ
room_of (Own ids) = length ids.items
room_of (Short short) = 64 * length short.words
room_of (Long long) = 64 * length long.words.value

-- the ids in memory are a lineage, and each id of a block has a mark
pub record IsHeld (h : HeldIds) : Type 0 where
  pub lineage : IsLineage (base_ids h)
  pub marked : length (base_ids h) ≤ room_of h
