-- The words of the base's clauses: which histories it stands for, and which calls may change it.
use Rattle.std.specs.Prelude.{◌≡◌, ℕ, ◌≤◌, List, [], length, true}
use Rattle.anti_ids.specs.declared.id.WriteId.{WriteId}
use Rattle.anti_ids.specs.declared.limits.TheConstants.{MOST_IDS}
use Rattle.anti_kind.specs.Kinds.{facts_of}
use Rattle.anti_kind.specs.declared.call.Call.{Call}
use Rattle.anti_kind.specs.declared.call.Call.TheVariants.{Write, Look, Ship, Again}
use Rattle.anti_kind.specs.declared.call.Reply.{Reply}
use Rattle.anti_kind.specs.declared.entry.Entry.{Entry}
use Rattle.anti_kind.specs.declared.store_kind.StoreKind.{StoreKind}
use Rattle.anti_kind.specs.Store.{Store, store_of, over}
use Rattle.anti_kind.specs.Objects.{store}
use Rattle.anti_kind.specs.Machines.{StandsFor, MayMake, MayApply}
use Rattle.anti_replicas.specs.declared.replicas.Replicas.{Replicas}
use Rattle.anti_replicas.specs.inner.Standing.{Stands}

-- the kind, the number and the regions of the store whose base it is
abbrev pub kind_of : Replicas → StoreKind
kind_of m = m.kind

abbrev pub number_of : Replicas → ℕ
number_of m = m.store

abbrev pub regions_of : Replicas → List ℕ
regions_of m = m.regions.items

-- the store has this kind, this number and these regions
pub record IsOf (s : Store) (kind : StoreKind) (number : ℕ) (regions : List ℕ) : Type 0 where
  pub kind_is : s.kind ≡ kind
  pub number_is : s.number ≡ number
  pub regions_are : s.regions ≡ regions

-- m stands for h, a legal history of the store s
abbrev pub At : Replicas → Store → List Entry → Type 0
At m s h = StandsFor (store s) (Stands m s) h

-- the same store, where each region shows the greatest version that is whole there
abbrev pub showing_whole : Store → Store
showing_whole s = store_of s.kind s.number s.regions s.subs s.tries

-- after some history of some store for which m stands the shipment is ready and fits
abbrev pub MayShip : Replicas → ℕ → ℕ → ℕ → Type 0
MayShip m g v p = (s : Store) × MayMake (store s) (Stands m s) (Ship g v p)

-- and a write of the value with the lineage, to some key, which is due the reply
abbrev pub MayWrite : Replicas → List ℕ → List WriteId → Reply → Type 0
MayWrite m value lineage reply = (s : Store) × (name : List ℕ) × MayApply (store s) (Stands m s) (Write name value lineage) reply

-- after some history of some store for which m stands a write keeps no more ids than a lineage may have
pub record MayKeep (m : Replicas) (name : List ℕ) (lineage : List WriteId) : Type 0 where
  pub of_store : Store
  pub history : List Entry
  pub at : At m of_store history
  pub few : length (over of_store history name lineage) ≤ MOST_IDS

-- a store that is read by keys
abbrev pub keyed : StoreKind → ℕ → List ℕ → Store
keyed kind number regions = store_of kind number regions [] 0

-- after some history of some such store for which m stands the call is ready and fits
abbrev pub MayKeyed : Replicas → Call → Type 0
MayKeyed m c =
    (kind : StoreKind) × (number : ℕ) × (regions : List ℕ)
    × MayMake (store (keyed kind number regions)) (Stands m (keyed kind number regions)) c × ((facts_of kind).keyed ≡ true)

-- and is due the reply
abbrev pub MayApplyKeyed : Replicas → Call → Reply → Type 0
MayApplyKeyed m c reply =
    (kind : StoreKind) × (number : ℕ) × (regions : List ℕ)
    × MayApply (store (keyed kind number regions)) (Stands m (keyed kind number regions)) c reply × ((facts_of kind).keyed ≡ true)

-- after some history of some store for which m stands the call is ready and fits
abbrev pub MayPass : Replicas → Call → Type 0
MayPass m c = (s : Store) × MayMake (store s) (Stands m s) c

-- a call that is the same at stores of all kinds
abbrev pub IsShared : Call → Type 0
IsShared (Ship region version part) = Unit {0}
IsShared (Again region version part) = Unit {0}
IsShared (Look region ids dry) = Unit {0}
IsShared _ = ⊥

-- a call that writes nothing
abbrev pub IsPassing : Call → Type 0
IsPassing (Write key value lineage) = ⊥
IsPassing _ = Unit {0}

-- a call that writes and ships nothing
abbrev pub IsOther : Call → Type 0
IsOther (Write key value lineage) = ⊥
IsOther (Ship region version part) = ⊥
IsOther _ = Unit {0}
