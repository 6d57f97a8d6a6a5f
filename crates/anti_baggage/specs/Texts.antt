-- The two texts of a lineage, over the names of the stores by their numbers.
use Rattle.std.specs.Prelude.{ℕ, codes, List, [], ◌∷◌, ◌++◌, ◌==◌, Option, None, Some, unwrap_or, slice_get, if◌then◌else◌}
use Rattle.std.specs.List.{join_by}
use Rattle.std.specs.Fmt.{decimal}
use Rattle.anti_ids.specs.declared.id.WriteId.{WriteId}
use Rattle.anti_baggage.specs.Escapes.{escaped}

-- the name of a store by its number; no bytes, where there is none
abbrev pub store_name : List (List ℕ) → ℕ → List ℕ
store_name stores store = unwrap_or (slice_get stores store) []

-- a key and a version, as `n%231@7`
abbrev pub keyed_text : List ℕ → ℕ → List ℕ
keyed_text key version = escaped key ++ codes "@" ++ decimal version

-- an id with the name of its store, as `notes/n%231@7`
abbrev pub named_text : List ℕ → List ℕ → ℕ → List ℕ
named_text store key version = escaped store ++ codes "/" ++ keyed_text key version

abbrev pub id_text : List (List ℕ) → WriteId → List ℕ
id_text stores id = named_text (store_name stores id.store) id.key id.version

-- ---- version 1

-- `1;`, and the ids with a comma between each two
abbrev pub lineage_text_one : List (List ℕ) → List WriteId → List ℕ
lineage_text_one stores ids = codes "1;" ++ join_by (id_text stores) (codes ",") ids

-- ---- version 2

-- an id behind the one before it: in the group of its store by its key and its version alone, else at the front of a further group
abbrev pub grouped_text : List (List ℕ) → Option WriteId → WriteId → List ℕ
grouped_text stores None id = id_text stores id
grouped_text stores (Some before) id =
    if id.store == before.store then codes "," ++ keyed_text id.key id.version else codes "|" ++ id_text stores id

abbrev pub groups_text : List (List ℕ) → Option WriteId → List WriteId → List ℕ
groups_text stores before [] = []
groups_text stores before (id ∷ ids) = grouped_text stores before id ++ groups_text stores (Some id) ids

-- `2;`, and the ids in groups, one for each store, which is named once
abbrev pub lineage_text : List (List ℕ) → List WriteId → List ℕ
lineage_text stores ids = codes "2;" ++ groups_text stores None ids
