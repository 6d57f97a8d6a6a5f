-- What a contract sees of a `List`: its items, and its room.
use Rattle.std.specs.Prelude.{ℕ, List, []}

-- The items of a list, and how many more are put into it without memory.
pub record Listed (T : Type 0) : Type 0 where
  pub items : List T
  pub spare : ℕ

module _ {T : Type 0} where
  -- the list with these items and no room, as `new` and `push` make it
  abbrev pub plain : List T → Listed T
  plain items = record { items = items; spare = 0 }

  abbrev pub empty : Listed T
  empty = plain []
