-- The looks that a barrier makes.
use Rattle.std.specs.Prelude.{ℕ, List, [], ◌∷◌}
use Rattle.anti_ids.specs.declared.id.WriteId.{WriteId}
use Rattle.anti_ids.specs.Ids.{ids_of}
use Rattle.anti_shim.specs.declared.looks.PlannedLook.{PlannedLook}

-- a look for the ids of a store, where there are any, before further looks
abbrev pub with_look : ℕ → List WriteId → List PlannedLook → List PlannedLook
with_look store [] further = further
with_look store (id ∷ ids) further = record { store = store; ids = id ∷ ids } ∷ further

-- For each of the stores, its ids of the lineage, where there are any.
abbrev pub plan : List ℕ → List WriteId → List PlannedLook
plan [] lineage = []
plan (store ∷ stores) lineage = with_look store (ids_of store lineage) (plan stores lineage)
