-- The stores: which there can be, what each starts as, and which of them a region has.
use Rattle.std.specs.Prelude.{◌≡◌, ℕ, Bool, ◌+◌, ◌<◌, ◌≤◌, ◌==◌, cond, true, List, [], ◌∷◌, length, All, AllPairs}
use Rattle.std.specs.List.{list_any}
use Rattle.anti_ids.specs.Names.{is_plain}
use Rattle.anti_ids.specs.declared.limits.TheConstants.{MOST_REGIONS, MOST_STORES}
use Rattle.anti_kind.specs.declared.store_kind.StoreKind.{StoreKind}
use Rattle.anti_kind.specs.declared.store_kind.StoreKind.TheVariants as kinds
use Rattle.anti_kind.specs.Objects.{Start, store}
use Rattle.anti_kind.specs.Store.{store_of}
use Rattle.anti_live.specs.declared.stores.LiveKind.{LiveKind}
use Rattle.anti_live.specs.declared.stores.LiveKind.TheVariants.{Kv, Table, Blob}
use Rattle.anti_live.specs.declared.stores.LiveStore.{LiveStore}

-- One to eight regions, all different.
pub record AreRegions (regions : List ℕ) : Type 0 where
  pub some : 1 ≤ length regions
  pub few : length regions ≤ MOST_REGIONS
  pub below : All (λ g. g < MOST_REGIONS) regions
  pub distinct : AllPairs (λ a b. a ≡ b → ⊥) regions

-- One to sixteen stores with different plain names.
pub record AreStores (stores : List LiveStore) : Type 0 where
  pub some : 1 ≤ length stores
  pub few : length stores ≤ MOST_STORES
  pub named : All (λ s. is_plain s.name ≡ true) stores
  pub distinct : AllPairs (λ a b. a.name ≡ b.name → ⊥) stores
  pub placed : All (λ s. AreRegions s.regions.items) stores

abbrev pub kind_of : LiveKind → StoreKind
kind_of Kv = kinds.Kv
kind_of Table = kinds.Table
kind_of Blob = kinds.Blob

-- what the store of a number starts as
abbrev pub start_at : ℕ → LiveStore → Start
start_at number s = store (store_of (kind_of s.kind) number s.regions.items [] 0)

-- the numbers of the stores with a replica in a region, in ascending order; the first of these stores has the given number
abbrev pub here_from : ℕ → ℕ → List LiveStore → List ℕ
here_from region number [] = []
here_from region number (s ∷ rest) =
    cond (list_any (λ g. g == region) s.regions.items) (number ∷ here_from region (number + 1) rest) (here_from region (number + 1) rest)

-- whether a store is among those of a region
abbrev pub is_among : ℕ → List ℕ → Bool
is_among o here = list_any (λ n. n == o) here

abbrev pub here_of : ℕ → List LiveStore → List ℕ
here_of region stores = here_from region 0 stores
