-- Where ids stand in memory.
use Rattle.std.specs.Prelude.{◌≡◌, ℕ, ◌+◌, ◌<◌, ◌≤◌, List, ◌∷◌, ◌++◌, true, false, length, take, drop, slice_get, Result, Ok, Err, Some}
use Rattle.std.specs.declared.cmp.Ordering.TheVariants.{Less, Greater}
use Rattle.anti_ids.specs.Each.{Each}
use Rattle.anti_ids.specs.declared.id.WriteId.{WriteId}
use Rattle.anti_ids.specs.Ids.{id_cmp, has_id, with_id, without_id}

-- an id stands at an index
pub record StandsAt (i : WriteId) (ids : List WriteId) (at : ℕ) : Type 0 where
  pub within : at < length ids
  pub is : slice_get ids at ≡ Some i
  pub there : has_id i ids ≡ true
  pub with : with_id i ids ≡ ids
  pub without : without_id i ids ≡ take at ids ++ drop (at + 1) ids

-- an id that is not there goes to an index
pub record GoesTo (i : WriteId) (ids : List WriteId) (at : ℕ) : Type 0 where
  pub within : at ≤ length ids
  pub low : Each (λ j. id_cmp j i ≡ Less) (take at ids)
  pub high : Each (λ j. id_cmp j i ≡ Greater) (drop at ids)
  pub absent : has_id i ids ≡ false
  pub with : with_id i ids ≡ take at ids ++ i ∷ drop at ids
  pub without : without_id i ids ≡ ids

-- where an id stands among ascending ids, or where it goes as it is not there
abbrev pub IsPlace : WriteId → List WriteId → Result ℕ ℕ → Type 0
IsPlace i ids (Ok at) = StandsAt i ids at
IsPlace i ids (Err at) = GoesTo i ids at
