-- Which starts there are: the stores of each kind, and inboxes.
use Rattle.std.specs.Prelude.{ℕ, List, [], Bool, ◌≡◌, ◌<◌, ◌≤◌, true, false, length, All, AllPairs, Contains}
use Rattle.anti_ids.specs.Names.{is_plain}
use Rattle.anti_ids.specs.declared.limits.TheConstants.{MOST_REGIONS, MOST_REQUESTS, MOST_ROOM}
use Rattle.anti_kind.specs.declared.store_kind.StoreKind.TheVariants.{Kv, Table, Blob, Queue, Topic, Cached}
use Rattle.anti_kind.specs.Store.{Store, store_of}
use Rattle.anti_kind.specs.declared.store_kind.Sub.{Sub}
use Rattle.anti_kind.specs.declared.store_kind.StoreKind.{StoreKind}
use Rattle.anti_kind.specs.Caches.{store_with}
use Rattle.anti_kind.specs.Kinds.{facts_of}
use Rattle.anti_kind.specs.Shipments.{AreTries}
use Rattle.anti_kind.specs.declared.message.Message.{Message}
use Rattle.anti_kind.specs.Objects.{Start, store, inbox}
use Rattle.anti_kind.specs.declared.message.MessageKind.TheVariants as kinds

abbrev pub kv_store : ℕ → List ℕ → Store
kv_store number regions = store_of Kv number regions [] 0

abbrev pub table_store : ℕ → List ℕ → Store
table_store number regions = store_of Table number regions [] 0

abbrev pub blob_store : ℕ → List ℕ → Store
blob_store number regions = store_of Blob number regions [] 0

abbrev pub queue_store : ℕ → List ℕ → List Sub → ℕ → Store
queue_store number regions subs tries = store_of Queue number regions subs tries

abbrev pub topic_store : ℕ → List ℕ → List Sub → Store
topic_store number regions subs = store_of Topic number regions subs 0

abbrev pub cached_store : ℕ → List ℕ → ℕ → Store
cached_store number regions room = store_with Cached number regions [] 0 room

abbrev pub is_pulled : StoreKind → Bool
is_pulled kind = (facts_of kind).pulled

abbrev pub HasTries : StoreKind → ℕ → Type 0
HasTries kind tries = AreTries (facts_of kind).tried tries

-- how many keys a cache holds, where reads go through one
abbrev pub IsRoom : Bool → ℕ → Type 0
IsRoom true room = (1 ≤ room) × (room ≤ MOST_ROOM)
IsRoom false room = Unit {0}

abbrev pub HasRoom : StoreKind → ℕ → Type 0
HasRoom kind room = IsRoom (facts_of kind).cached room

-- a store with one to eight replicas in different regions, subscriptions to plain channels at these, in a queue tries, and room in its caches
pub record IsStore (s : Store) : Type 0 where
  pub some : 1 ≤ length s.regions
  pub few : length s.regions ≤ MOST_REGIONS
  pub below : All (λ g. g < MOST_REGIONS) s.regions
  pub distinct : AllPairs (λ a b. a ≡ b → ⊥) s.regions
  pub subscribed : All (λ sub. Contains s.regions sub.region × (is_plain sub.channel ≡ true)) s.subs
  pub tries : HasTries s.kind s.tries
  pub room : HasRoom s.kind s.room

pub record IsInbox (requests : List Message) : Type 0 where
  pub few : length requests ≤ MOST_REQUESTS
  pub asked : All (λ m. m.kind ≡ kinds.Request) requests

abbrev pub IsStart : Start → Type 0
IsStart (store s) = IsStore s
IsStart (inbox requests) = IsInbox requests
