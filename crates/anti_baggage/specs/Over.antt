-- The lineages that have a text.
use Rattle.std.specs.Prelude.{◌≡◌, ℕ, ◌<◌, ◌^◌, Bool, true, not, ◌&&◌, List, [], ◌∷◌, length}
use Rattle.std.specs.List.{list_all, list_any}
use Rattle.std.specs.Str.{bytes_eq}
use Rattle.anti_ids.specs.Each.{Each}
use Rattle.anti_ids.specs.Invariants.{IsLineage}
use Rattle.anti_ids.specs.Names.{is_name}
use Rattle.anti_ids.specs.declared.id.WriteId.{WriteId}

-- an id of one of the stores, whose key is a name and whose version fits in 64 bits
abbrev pub IsIdOver : List (List ℕ) → WriteId → Type 0
IsIdOver stores id = (id.store < length stores) × (is_name id.key ≡ true) × (id.version < 2 ^ 64)

-- a lineage of such ids
pub record IsOver (stores : List (List ℕ)) (ids : List WriteId) : Type 0 where
  pub lineage : IsLineage ids
  pub each : Each (IsIdOver stores) ids

-- no two stores have the same name
abbrev pub are_distinct : List (List ℕ) → Bool
are_distinct [] = true
are_distinct (name ∷ names) = not (list_any (bytes_eq name) names) && are_distinct names

-- names of stores: each a name, and no two the same
abbrev pub are_names : List (List ℕ) → Bool
are_names stores = list_all is_name stores && are_distinct stores
