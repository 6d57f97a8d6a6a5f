-- The groups of versions that regions do not have yet: each group is so many versions that stand one behind another.
use Rattle.std.specs.Prelude.{◌≡◌, ◌≢◌, ℕ, ◌+◌, ◌-◌, ◌*◌, ◌≤◌, Bool, true, false, cond, ◌==◌, ◌<◌, All, List, [], ◌∷◌, ◌++◌, length, map, slice_index_or, Option, Some, None}
use Rattle.std.specs.List.{AllByRecursion, list_all, list_any, range_with_len}
use Rattle.anti_flight.specs.Queued.{Queued, queued}
use Rattle.anti_flight.specs.declared.ticket.Ticket.{Ticket}
use Rattle.anti_ids.specs.declared.limits.TheConstants.{MOST_REGIONS}
use Rattle.anti_replicas.specs.declared.backlog.TheConstants.{IN_GROUP}
use Rattle.anti_replicas.specs.declared.kept_write.KeptWrite.{KeptWrite}
use Rattle.anti_replicas.specs.inner.Marks.{has_all}

abbrev pub first : List ℕ → Option ℕ
first [] = None
first (v ∷ vs) = Some v

-- without the first that is v
abbrev pub remove_first : ℕ → List ℕ → List ℕ
remove_first v [] = []
remove_first v (x ∷ xs) = cond (x == v) xs (x ∷ remove_first v xs)

-- a backlog without a group
abbrev pub without : ℕ → Queued ℕ → Queued ℕ
without v backlog = queued (remove_first v backlog.items) backlog.next

-- how many groups, from the first on, are there, where these are not, of those up to `last`
abbrev pub passed : List ℕ → ℕ → ℕ
passed [] last = last
passed (v ∷ vs) last = v - 1

-- the ticket of the first pair whose item is v
abbrev pub IsFirst : ℕ → Ticket → List (Ticket × ℕ) → Type 0
IsFirst v t ps = (xs : List (Ticket × ℕ)) × (ys : List (Ticket × ℕ)) × (ps ≡ xs ++ (t, v) ∷ ys) × AllByRecursion (λ (p : Ticket × ℕ). p.1 ≢ v) xs

-- the places of what is false, counted from n on
abbrev pub places_off : ℕ → List Bool → List ℕ
places_off n [] = []
places_off n (b ∷ bs) = cond b (places_off (n + 1) bs) (n ∷ places_off (n + 1) bs)

-- Whether all of the group j are there, by what is there of each version. Groups and versions are counted from 0; one that is not kept
-- is not there.
abbrev pub group_whole : List Bool → ℕ → Bool
group_whole there j = list_all (λ i. slice_index_or there i false) (range_with_len (j * IN_GROUP) IN_GROUP)

-- which of so many groups are whole at the region g
abbrev pub wholes : ℕ → List KeptWrite → ℕ → List Bool
wholes g ks count = map (group_whole (map (has_all g) ks)) (range_with_len 0 count)

-- The backlog of the region g has just the groups that are not whole there. The group of the next write may stand in it before that write
-- is kept: so it is where the write found no memory.
pub record IsBehind (g : ℕ) (ks : List KeptWrite) (backlog : Queued ℕ) : Type 0 where
  pub items : backlog.items ≡ places_off 1 (wholes g ks backlog.next)
  pub least : length ks ≤ backlog.next * IN_GROUP
  pub most : backlog.next * IN_GROUP ≤ length ks + IN_GROUP

-- Each region of the list has its backlog, and no other region waits for anything.
pub record AreBehind (regions : List ℕ) (ks : List KeptWrite) (backlogs : List (Queued ℕ)) : Type 0 where
  pub count : length backlogs ≡ MOST_REGIONS
  pub behind : (g : ℕ) (d : Queued ℕ) → g < MOST_REGIONS → list_any (λ region. region == g) regions ≡ true → IsBehind g ks (slice_index_or backlogs g d)
  pub none : (g : ℕ) (d : Queued ℕ) → g < MOST_REGIONS → list_any (λ region. region == g) regions ≡ false → slice_index_or backlogs g d ≡ queued [] 0

-- each region has its place in an array of all regions
abbrev pub AreBelow : List ℕ → Type 0
AreBelow regions = All (λ region. region < MOST_REGIONS) regions

-- all of these regions have the group of the next version in their backlogs, or had it
abbrev pub HaveNext : List ℕ → List KeptWrite → List (Queued ℕ) → Type 0
HaveNext regions ks backlogs = (g : ℕ) (d : Queued ℕ) → list_any (λ region. region == g) regions ≡ true → length ks < (slice_index_or backlogs g d).next * IN_GROUP
