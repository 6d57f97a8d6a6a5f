-- What the base keeps of the history that it stands for, and what its two changes do to it.
use Rattle.std.specs.Prelude.{◌≡◌, ℕ, ◌+◌, ◌-◌, ◌*◌, ◌/◌, ◌<◌, ◌≤◌, max, Bool, true, false, ◌&&◌, All, List, ◌∷◌, [], ◌++◌, length, map, replicate, Some, unwrap_or, slice_index_or, slice_set}
use Rattle.std.specs.List.{prefix_len}
use Rattle.anti_flight.specs.Queued.{Queued}
use Rattle.anti_kind.specs.declared.entry.Entry.{Entry}
use Rattle.anti_ids.specs.declared.limits.TheConstants.{MOST_REGIONS, MOST_UNITS}
use Rattle.anti_kind.specs.declared.row.Row.{Row}
use Rattle.anti_kind.specs.Stored.{rows, is_shipped, parts_of, greatest, shows_of}
use Rattle.anti_kind.specs.Store.{Store, owed_shipments}
use Rattle.anti_kind.specs.Objects.{held}
use Rattle.anti_replicas.specs.declared.backlog.TheConstants.{IN_GROUP}
use Rattle.anti_replicas.specs.declared.replicas.Replicas.{Replicas}
use Rattle.anti_replicas.specs.declared.kept_write.KeptWrite.{KeptWrite}
use Rattle.anti_replicas.specs.declared.kept_write.TheConstants.{MOST_PARTS}
use Rattle.anti_replicas.specs.declared.newest.Newest.{Newest}
use Rattle.anti_replicas.specs.declared.newest.TheConstants.{WRITTEN}
use Rattle.anti_replicas.specs.inner.Backlogs.{AreBehind, HaveNext, AreBelow, group_whole, without, passed}
use Rattle.anti_replicas.specs.inner.Marks.{came, has_all, marked}
use Rattle.anti_replicas.specs.inner.Newest.{key_number, newest_at, last_at, AreNumbered, MakesPlace, Brings}

-- what is kept of the write of version v: its parts, with a mark for each shipment of one, and the number of its key
pub record IsKept (s : Store) (h : List Entry) (newest : Newest) (v : ℕ) (k : KeptWrite) : Type 0 where
  pub marks : (g p : ℕ) → g < MOST_REGIONS → 1 ≤ p → p ≤ MOST_PARTS → came k g p ≡ is_shipped h g v p
  pub size : length k.marks ≡ MOST_REGIONS
  pub parts : k.parts ≡ parts_of s.kind k.row.value
  pub some : 1 ≤ k.parts
  pub few : k.parts ≤ MOST_PARTS
  pub number : key_number newest k.row.key ≡ Some k.number

abbrev pub AreKept : Store → List Entry → Newest → List KeptWrite → Type 0
AreKept s h newest ks = (i : ℕ) (d : KeptWrite) → i < length ks → IsKept s h newest (i + 1) (slice_index_or ks i d)

-- so many ids at most are kept beside a write
abbrev pub HasFew : ℕ → Row → Type 0
HasFew most r = length r.lineage ≤ most

-- the rows of the history's writes with the marks of its shipments, what each region therefore waits for, has and shows, what was written
-- last, and the units that the history holds and owes
pub record Stands (m : Replicas) (s : Store) (h : List Entry) : Type 0 where
  pub kind_is : m.kind ≡ s.kind
  pub number_is : m.store ≡ s.number
  pub regions_are : m.regions.items ≡ s.regions
  pub replicas_are : m.replicas ≡ length s.regions
  pub rows_are : map (λ k. k.row) m.kept.items ≡ rows h
  pub kept_are : AreKept s h m.newest m.kept.items
  pub behind : AreBehind s.regions m.kept.items m.backlogs.items
  pub uptos : length m.upto ≡ MOST_REGIONS
  pub upto_is : (g : ℕ) → g < MOST_REGIONS → slice_index_or m.upto g 0 ≡ prefix_len (has_all g) m.kept.items
  pub numbered : AreNumbered m.newest
  pub shows : (g : ℕ) (k : List ℕ) → g < MOST_REGIONS → newest_at m.newest g k ≡ shows_of s.kind h g k
  pub last_is : (k : List ℕ) → last_at m.newest k ≡ greatest (λ r. true) k (rows h)
  pub longest_is : All (HasFew m.longest) (rows h)
  pub held_is : m.held ≡ held h
  pub owed_is : m.owed ≡ owed_shipments s h

-- what a write finds that may be made, of so many parts
pub record Writable (m : Replicas) (parts : ℕ) : Type 0 where
  pub numbered : AreNumbered m.newest
  pub units : m.held + m.owed + m.replicas * parts < MOST_UNITS
  pub regions : AreBelow m.regions.items
  pub behind : AreBehind m.regions.items m.kept.items m.backlogs.items
  pub few : length m.kept.items ≤ MOST_UNITS

-- the number of a key that has one
abbrev pub its_number : Newest → List ℕ → ℕ
its_number n k = unwrap_or (key_number n k) 0

-- n is m with one more write, which came to no region yet: its key has a place, where the write is the last
pub record Keeps (m n : Replicas) (row : Row) : Type 0 where
  pub kind_is : n.kind ≡ m.kind
  pub store_is : n.store ≡ m.store
  pub regions_are : n.regions ≡ m.regions
  pub replicas_are : n.replicas ≡ m.replicas
  pub placed : Newest
  pub makes : MakesPlace m.newest placed
  pub number : key_number placed row.key ≡ Some (its_number placed row.key)
  pub brings : Brings placed n.newest WRITTEN (its_number placed row.key) row.version
  pub kept_is : n.kept.items ≡ m.kept.items ++ record { row = row; marks = replicate MOST_REGIONS 0; parts = parts_of m.kind row.value; number = its_number placed row.key } ∷ []
  pub some : 1 ≤ parts_of m.kind row.value
  pub few : parts_of m.kind row.value ≤ MOST_PARTS
  pub upto_is : n.upto ≡ m.upto
  pub behind : AreBehind m.regions.items m.kept.items n.backlogs.items
  pub have_next : HaveNext m.regions.items m.kept.items n.backlogs.items
  pub longest_is : n.longest ≡ max m.longest (length row.lineage)
  pub held_is : n.held ≡ m.held + 1
  pub owed_is : n.owed ≡ m.owed + m.replicas * parts_of m.kind row.value

-- where the version is whole at the region, its key, by its number, has it there
abbrev pub BringsIf : Bool → Newest → Newest → ℕ → ℕ → ℕ → Type 0
BringsIf true m n g number v = Brings m n g number v
BringsIf false m n g number v = n ≡ m

-- the place of the group of the version v, both counted from 1, among the groups, counted from 0
abbrev pub group_at : ℕ → ℕ
group_at v = (v - 1) / IN_GROUP

-- where the group at a place is whole at the region, it leaves the region's backlog
abbrev pub LeavesIf : Bool → List (Queued ℕ) → List (Queued ℕ) → ℕ → ℕ → Type 0
LeavesIf true old new g j = (d : Queued ℕ) → new ≡ slice_set old g (without (j + 1) (slice_index_or old g d))
LeavesIf false old new g j = new ≡ old

-- n is m after the group of the version v left, if it is whole
abbrev pub Leaves : Replicas → Replicas → ℕ → ℕ → Type 0
Leaves m n g v = LeavesIf (group_whole (map (has_all g) m.kept.items) (group_at v)) m.backlogs.items n.backlogs.items g (group_at v)

-- What tells how far the region g has everything, u versions before, once the version v is whole there: where v is the first that it
-- lacked, it has v now, else it has as many as before; and it has all versions of the groups that its backlog has passed.
pub record CanReach (u : ℕ) (ks : List KeptWrite) (backlog : Queued ℕ) (g v : ℕ) : Type 0 where
  pub next : v ≡ u + 1 → v ≤ prefix_len (has_all g) ks
  pub same : (v ≡ u + 1 → ⊥) → u ≡ prefix_len (has_all g) ks
  pub groups : passed backlog.items backlog.next * IN_GROUP ≤ prefix_len (has_all g) ks

-- so it is kept for the region
abbrev pub Reaches : List ℕ → List ℕ → List KeptWrite → List (Queued ℕ) → ℕ → ℕ → Type 0
Reaches old new ks backlogs g v =
    (d : Queued ℕ) → CanReach (slice_index_or old g 0) ks (slice_index_or backlogs g d) g v → new ≡ slice_set old g (prefix_len (has_all g) ks)

abbrev pub ReachesIf : Bool → List ℕ → List ℕ → List KeptWrite → List (Queued ℕ) → ℕ → ℕ → Type 0
ReachesIf true old new ks backlogs g v = Reaches old new ks backlogs g v
ReachesIf false old new ks backlogs g v = new ≡ old

-- n is m with the mark of a part of a version at a region
pub record Marks (m n : Replicas) (g v p : ℕ) : Type 0 where
  pub kind_is : n.kind ≡ m.kind
  pub store_is : n.store ≡ m.store
  pub regions_are : n.regions ≡ m.regions
  pub replicas_are : n.replicas ≡ m.replicas
  pub kept_is : (d : KeptWrite) → n.kept.items ≡ slice_set m.kept.items (v - 1) (marked g p (slice_index_or m.kept.items (v - 1) d))
  pub brings : (d : KeptWrite) → BringsIf (has_all g (marked g p (slice_index_or m.kept.items (v - 1) d))) m.newest n.newest g (slice_index_or m.kept.items (v - 1) d).number v
  pub leaves : (d : KeptWrite) → LeavesIf (has_all g (marked g p (slice_index_or m.kept.items (v - 1) d)) && group_whole (map (has_all g) n.kept.items) (group_at v)) m.backlogs.items n.backlogs.items g (group_at v)
  pub reaches : (d : KeptWrite) → ReachesIf (has_all g (marked g p (slice_index_or m.kept.items (v - 1) d))) m.upto n.upto n.kept.items n.backlogs.items g v
  pub longest_is : n.longest ≡ m.longest
  pub held_is : n.held ≡ m.held + 1
  pub owed_is : n.owed + 1 ≡ m.owed

-- what a shipment finds that may be made
pub record Shippable (m : Replicas) (g v p : ℕ) : Type 0 where
  pub region : g < MOST_REGIONS
  pub first : 1 ≤ v
  pub kept : v ≤ length m.kept.items
  pub part : (1 ≤ p) × (p ≤ MOST_PARTS)
  pub backlogs : length m.backlogs.items ≡ MOST_REGIONS
  pub number : (d : KeptWrite) → (slice_index_or m.kept.items (v - 1) d).number < length m.newest.versions.items
  pub owed : 1 ≤ m.owed
  pub held : m.held < MOST_UNITS
