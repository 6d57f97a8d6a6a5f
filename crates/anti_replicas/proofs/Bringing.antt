-- What was shipped, by the marks, what never was, and what comes next.
use Rattle.std.proofs.Common.{◌≡◌, ℕ, ◌+◌, ◌-◌, ◌<◌, ◌≤◌, Bool, true, false, not, ◌&&◌, ◌||◌, List, [], length, get_or, Option, Some, None, find, refl, sym, ap, ◌∙◌, ◌⊎◌, ⊎_elim, ◌==◌, leb, eqb-true, leb-true, arith}
use Rattle.std.specs.Prelude.{slice_get, flat_map}
use Rattle.std.specs.List.{list_all, list_any, range_with_len}
use Rattle.std.specs.Option.{option_map}
use Rattle.std.proofs.lemmas.Bool.{both_ways, and_parts, and_from, and_left, and_right, or_left, or_right, or_from, false_from_ne_true, cases_lt, le-leb, lt-leb}
use Rattle.std.proofs.lemmas.List.Folds.{Any-from_list_any, list_all_at}
use Rattle.std.proofs.lemmas.List.Sums.{prefix_len_passes, prefix_len_stops, AllPass-from_list_all, list_all-from_AllPass}
use Rattle.std.proofs.lemmas.Option.{slice_get_within, slice_get-get_or, get_or_from_slice_get}
use Rattle.anti_kind.specs.Kinds.{facts_of}
use Rattle.anti_kind.specs.declared.entry.Entry.{Entry}
use Rattle.anti_kind.specs.declared.row.Row.{Row}
use Rattle.anti_kind.specs.declared.store_kind.StoreKind.{StoreKind}
use Rattle.anti_kind.proofs.FactLaws.{one_is_whole}
use Rattle.anti_kind.specs.Stored.{rows, row_of, is_shipped, parts_of, parts, is_whole, shows_of}
use Rattle.anti_kind.specs.Shipments.{upto_of, shipment, shipments, next_shipment}
use Rattle.anti_kind.specs.Store.{Store, absent, has_part, is_replica, is_next, can_ship}
use Rattle.anti_kind.specs.Objects.{store, IsLegal}
use Rattle.anti_kind.proofs.Rows.{version_at, row_of_at}
use Rattle.anti_kind.proofs.Shipped.{shipped_sound, version_within}
use Rattle.anti_replicas.specs.declared.replicas.Replicas.{Replicas}
use Rattle.anti_replicas.specs.declared.kept_write.KeptWrite.{KeptWrite}
use Rattle.anti_replicas.specs.declared.newest.Newest.{Newest}
use Rattle.anti_replicas.specs.inner.Backlogs.{AreBelow}
use Rattle.anti_replicas.specs.inner.Marks.{came, first_missing, has_all}
use Rattle.anti_replicas.specs.inner.Standing.{IsKept}
use Rattle.anti_replicas.specs.Stores.{At}
use Rattle.anti_replicas.proofs.Numbers.{all_numbers, find_alike, find_numbers, prefix_none, none_fails, some_fails, find_nothing, find_map, find_first, find_nowhere}
use Rattle.anti_replicas.proofs.Places.{and_true}
use Rattle.anti_replicas.proofs.Reading.{row_is, count_is, kept_is, row_there, row_absent}
use Rattle.anti_replicas.proofs.Shows.{greatest_none, whole_none}

-- A replica's region is below 8.
pub listed_below : (regions : List ℕ) → AreBelow regions → (g : ℕ) → list_any (λ region. region == g) regions ≡ true → g < 8
listed_below regions below g is =
    let found = Any-from_list_any (λ region. region == g) regions is in
    let same : found.1 ≡ g = eqb-true found.1 g found.4 in
    let low : found.1 < 8 = omega (arith, below found.0 found.1 found.2, found.3) in
    omega arith

pub replica_below : (m : Replicas) (s : Store) (h : List Entry) → At m s h → (g : ℕ) → is_replica s g ≡ true → g < 8
replica_below m s h at g is = listed_below s.regions at.sane.below g is

pub part_of_some : (kind : StoreKind) (r : Row) (p : ℕ) → has_part kind (Some r) p ≡ true → (1 ≤ p) × (p ≤ parts_of kind r.value)
part_of_some kind r p has =
    let both = and_parts (leb 1 p) _ has in
    (leb-true 1 p both.0, leb-true p (parts_of kind r.value) both.1)

-- Whether the marks of a write say that it is whole.
module _ (s : Store) (h : List Entry) (newest : Newest) (v : ℕ) (k : KeptWrite) (kept : IsKept s h newest v k) (number : k.row.version ≡ v) (g : ℕ) (low : g < 8) where
  mark_of : (p : ℕ) → 1 ≤ p → p ≤ k.parts → came k g p ≡ is_shipped h g k.row.version p
  mark_of p first last = kept.marks g p low first (omega (arith, kept.few)) ∙ ap (λ (n : ℕ). is_shipped h g n p) (sym number)

  pub whole_of : has_all g k ≡ is_whole s.kind h g k.row
  whole_of =
      all_numbers (came k g) (λ p. is_shipped h g k.row.version p) k.parts mark_of
      ∙ ap (λ (n : ℕ). list_all (λ p. is_shipped h g k.row.version p) (range_with_len 1 n)) kept.parts

  pub missing_of : first_missing k g ≡ find (λ p. not (is_shipped h g k.row.version p)) (parts s.kind k.row)
  missing_of =
      find_numbers (λ p. not (came k g p)) (λ p. not (is_shipped h g k.row.version p)) k.parts (λ p first last. ap not (mark_of p first last))
      ∙ ap (λ (n : ℕ). find (λ p. not (is_shipped h g k.row.version p)) (range_with_len 1 n)) kept.parts

-- some write, where one has to be named
pub no_kept : KeptWrite
no_kept = record { row = absent []; marks = []; parts = 0; number = 0 }

module _ (m : Replicas) (s : Store) (h : List Entry) (at : At m s h) where
  -- the part that is there of a version
  pub its_part : (v p : ℕ) → has_part s.kind (row_of h v) p ≡ true → (1 ≤ v) × (v ≤ length m.kept.items) × (1 ≤ p) × (p ≤ 4)
  its_part v p has =
      let in' = version_within s h at.legal v p has in
      let within : v - 1 < length m.kept.items = omega (arith, count_is m s h at.state, in'.0, in'.1) in
      let k : KeptWrite = get_or m.kept.items (v - 1) no_kept in
      let is : slice_get m.kept.items (v - 1) ≡ Some k = slice_get-get_or m.kept.items (v - 1) no_kept within in
      let kept : IsKept s h m.newest v k = kept_is m s h at.state v k in'.0 is in
      let part = part_of_some s.kind k.row p (ap (λ (o : Option Row). has_part s.kind o p) (sym (row_there m s h at v k in'.0 is)) ∙ has) in
      (in'.0, omega (arith, count_is m s h at.state, in'.1), part.0, omega (arith, part.1, kept.parts, kept.few))

  was_part : (g v p : ℕ) → is_shipped h g v p ≡ true → (1 ≤ v) × (v ≤ length m.kept.items) × (1 ≤ p) × (p ≤ 4)
  was_part g v p was = its_part v p (shipped_sound s h at.legal g v p was).part

  -- What never was shipped.

  pub no_region : (g v p : ℕ) → 8 ≤ g → is_shipped h g v p ≡ false
  no_region g v p above =
      false_from_ne_true (is_shipped h g v p) (λ was. omega (arith, replica_below m s h at g (shipped_sound s h at.legal g v p was).replica))

  pub no_version : (g v p : ℕ) → (v ≡ 0) ⊎ (length m.kept.items < v) → is_shipped h g v p ≡ false
  no_version g v p out =
      false_from_ne_true (is_shipped h g v p) (λ was. let in' = was_part g v p was in
      ⊎_elim (λ (low : v ≡ 0). omega (arith, in'.0)) (λ (high : length m.kept.items < v). omega (arith, in'.1)) out)

  pub no_part : (g v p : ℕ) → (p ≡ 0) ⊎ (4 < p) → is_shipped h g v p ≡ false
  no_part g v p out =
      false_from_ne_true (is_shipped h g v p) (λ was. let in' = was_part g v p was in
      ⊎_elim (λ (low : p ≡ 0). omega (arith, in'.2)) (λ (high : 4 < p). omega (arith, in'.3)) out)

  pub mark_is : (g v p : ℕ) (k : KeptWrite) → g < 8 → (p ≡ 0 → ⊥) → p ≤ 4 → 1 ≤ v → slice_get m.kept.items (v - 1) ≡ Some k → came k g p ≡ is_shipped h g v p
  mark_is g v p k low some few first is = (kept_is m s h at.state v k first is).marks g p low (omega arith) few

  -- whether a part is there
  pub part_is : (v p : ℕ) (k : KeptWrite) → (p ≡ 0 → ⊥) → 1 ≤ v → slice_get m.kept.items (v - 1) ≡ Some k → leb p k.parts ≡ has_part s.kind (row_of h v) p
  part_is v p k some first is =
      let one : leb 1 p ≡ true = le-leb 1 p (omega arith) in
      ap (leb p) (kept_is m s h at.state v k first is).parts
      ∙ ap (λ (b : Bool). b && leb p (parts_of s.kind k.row.value)) (sym one)
      ∙ ap (λ (o : Option Row). has_part s.kind o p) (sym (row_there m s h at v k first is))

  pub no_such_part : (v p : ℕ) → p ≡ 0 → false ≡ has_part s.kind (row_of h v) p
  no_such_part v p none = sym (false_from_ne_true (has_part s.kind (row_of h v) p) (λ has. omega (arith, (its_part v p has).2)))

  pub part_absent : (v p : ℕ) → (v ≡ 0) ⊎ (length m.kept.items < v) → false ≡ has_part s.kind (row_of h v) p
  part_absent v p out = sym (ap (λ (o : Option Row). has_part s.kind o p) (row_absent m s h at v out))

  -- a region without a replica shows nothing, and has nothing
  nothing_whole : (g : ℕ) → is_replica s g ≡ false → (r : Row) → is_whole s.kind h g r ≡ false
  nothing_whole g off r =
      whole_none s.kind h g r (λ p. false_from_ne_true (is_shipped h g r.version p) (λ was.
      both_ways (is_replica s g) off (shipped_sound s h at.legal g r.version p was).replica))

  none_beyond : (g : ℕ) → 8 ≤ g → is_replica s g ≡ false
  none_beyond g above = false_from_ne_true (is_replica s g) (λ on. omega (arith, replica_below m s h at g on))

  pub shows_nothing : (g : ℕ) (k : List ℕ) → 8 ≤ g → 0 ≡ shows_of s.kind h g k
  shows_nothing g k above = sym (greatest_none (is_whole s.kind h g) k (rows h) (nothing_whole g (none_beyond g above)))

  pub upto_nothing : (g : ℕ) → is_replica s g ≡ false → 0 ≡ upto_of s.kind h g
  upto_nothing g off = sym (prefix_none (is_whole s.kind h g) (rows h) (nothing_whole g off))

  pub upto_beyond : (g : ℕ) → 8 ≤ g → 0 ≡ upto_of s.kind h g
  upto_beyond g above = upto_nothing g (none_beyond g above)

-- A table is shipped in the order of its versions.

module _ (s : Store) (h : List Entry) (l : IsLegal (store s) h) (g v : ℕ) (table : (facts_of s.kind).ordered ≡ true) (few : v ≤ length (rows h)) where
  table_whole : (r : Row) → is_whole s.kind h g r ≡ is_shipped h g r.version 1
  table_whole r = one_is_whole s.kind h g r table ∙ and_true (is_shipped h g r.version 1)

  brought : v - 1 ≤ upto_of s.kind h g → is_next h g v ≡ true
  brought low =
      list_all-from_AllPass (λ r. leb v r.version || is_shipped h g r.version 1) (rows h) (λ i d short.
      let number : (get_or (rows h) i d).version ≡ i + 1 = version_at s h l i d short in
      ⊎_elim (λ (less : i + 1 < v).
      or_right (leb v (get_or (rows h) i d).version) _
      (sym (table_whole (get_or (rows h) i d)) ∙ prefix_len_passes (is_whole s.kind h g) (rows h) i d (omega arith)))
      (λ (more : v ≤ i + 1). or_left (leb v (get_or (rows h) i d).version) _ (le-leb v (get_or (rows h) i d).version (omega arith)))
      (cases_lt (i + 1) v))

  not_brought : upto_of s.kind h g < v - 1 → is_next h g v ≡ false
  not_brought high =
      let u : ℕ = upto_of s.kind h g in
      let short : u < length (rows h) = omega arith in
      let number : (get_or (rows h) u (absent [])).version ≡ u + 1 = version_at s h l u (absent []) short in
      list_all_at (λ r. leb v r.version || is_shipped h g r.version 1) (rows h) u (absent []) short
      (or_from (leb v (get_or (rows h) u (absent [])).version) _ (lt-leb v (get_or (rows h) u (absent [])).version (omega arith))
      (sym (table_whole (get_or (rows h) u (absent []))) ∙ prefix_len_stops (is_whole s.kind h g) (rows h) (absent []) short))

  -- whether all versions below v came, by how far the region has everything
  pub next_upto : leb (v - 1) (upto_of s.kind h g) ≡ is_next h g v
  next_upto =
      ⊎_elim (λ (high : upto_of s.kind h g < v - 1). lt-leb (v - 1) (upto_of s.kind h g) high ∙ sym (not_brought high))
      (λ (low : v - 1 ≤ upto_of s.kind h g). le-leb (v - 1) (upto_of s.kind h g) low ∙ sym (brought low))
      (cases_lt (upto_of s.kind h g) (v - 1))

-- so the version behind what a region has is the next, whatever the kind
pub first_is_next : (s : Store) (h : List Entry) → IsLegal (store s) h → (g v : ℕ) → v ≤ length (rows h) → v - 1 ≤ upto_of s.kind h g → (not (facts_of s.kind).ordered || is_next h g v) ≡ true
first_is_next s h l g v few low = by_order (facts_of s.kind).ordered refl where
  by_order : (ordered : Bool) → (facts_of s.kind).ordered ≡ ordered → (not (facts_of s.kind).ordered || is_next h g v) ≡ true
  by_order true is = or_right (not (facts_of s.kind).ordered) _ (sym (next_upto s h l g v is few) ∙ le-leb (v - 1) (upto_of s.kind h g) low)
  by_order false is = or_left (not (facts_of s.kind).ordered) _ (ap not is)

-- The next shipment.

abbrev can : Store → List Entry → ℕ → ℕ × ℕ → Bool
can s h g x = can_ship s h g x.0 x.1

-- a region without a replica gets nothing
pub next_nowhere : (s : Store) (h : List Entry) (g : ℕ) → is_replica s g ≡ false → next_shipment s h g ≡ None
next_nowhere s h g off = find_nothing (can s h g) (flat_map (shipments s.kind) (rows h)) (λ x. and_left (is_replica s g) _ off)

module _ (m : Replicas) (s : Store) (h : List Entry) (at : At m s h) (g : ℕ) (replica : is_replica s g ≡ true) where
  -- of a row that is whole nothing is to be shipped
  done : (r : Row) → is_whole s.kind h g r ≡ true → find (can s h g) (shipments s.kind r) ≡ None
  done r whole =
      find_map (can s h g) (shipment r.version) (parts s.kind r)
      ∙ ap (option_map (shipment r.version))
      (find_alike (λ p. can s h g (shipment r.version p)) (λ p. not (is_shipped h g r.version p)) (parts s.kind r) (λ i d short.
      let was : is_shipped h g r.version (get_or (parts s.kind r) i d) ≡ true = AllPass-from_list_all (λ p. is_shipped h g r.version p) (parts s.kind r) whole i d short in
      let off : can_ship s h g r.version (get_or (parts s.kind r) i d) ≡ false =
      and_right (is_replica s g) _ (and_right (has_part s.kind (row_of h r.version) (get_or (parts s.kind r) i d)) _ (and_left (not (is_shipped h g r.version (get_or (parts s.kind r) i d))) _ (ap not was))) in
      off ∙ sym (ap not was))
      ∙ none_fails (λ p. is_shipped h g r.version p) (parts s.kind r) whole)

  -- of the first row that is not whole the first part that is missing
  first_part : (i : ℕ) (d : Row) → i < length (rows h) → i ≤ upto_of s.kind h g
      → find (can s h g) (shipments s.kind (get_or (rows h) i d)) ≡ option_map (shipment (get_or (rows h) i d).version) (find (λ p. not (is_shipped h g (get_or (rows h) i d).version p)) (parts s.kind (get_or (rows h) i d)))
  first_part i d short low =
      let r : Row = get_or (rows h) i d in
      let number : r.version ≡ i + 1 = version_at s h at.legal i d short in
      let row : row_of h r.version ≡ Some r = row_of_at s h at.legal r.version i d number short in
      find_map (can s h g) (shipment r.version) (parts s.kind r)
      ∙ ap (option_map (shipment r.version))
      (find_numbers (λ p. can s h g (shipment r.version p)) (λ p. not (is_shipped h g r.version p)) (parts_of s.kind r.value) (λ p first last.
      let has : has_part s.kind (row_of h r.version) p ≡ true =
      ap (λ (o : Option Row). has_part s.kind o p) row ∙ and_from (leb 1 p) _ (le-leb 1 p first) (le-leb p (parts_of s.kind r.value) last) in
      let next : (not (facts_of s.kind).ordered || is_next h g r.version) ≡ true = first_is_next s h at.legal g r.version (omega arith) (omega arith) in
      ap (λ (b : Bool). b && (has_part s.kind (row_of h r.version) p && (not (is_shipped h g r.version p) && (not (facts_of s.kind).ordered || is_next h g r.version)))) replica
      ∙ ap (λ (b : Bool). b && (not (is_shipped h g r.version p) && (not (facts_of s.kind).ordered || is_next h g r.version))) has
      ∙ ap (λ (b : Bool). not (is_shipped h g r.version p) && b) next
      ∙ and_true (not (is_shipped h g r.version p))))

  -- the row before how far the region has everything
  passed : (i : ℕ) (d : Row) → i < upto_of s.kind h g → find (can s h g) (shipments s.kind (get_or (rows h) i d)) ≡ None
  passed i d less = done (get_or (rows h) i d) (prefix_len_passes (is_whole s.kind h g) (rows h) i d less)

  pub next_over : length m.kept.items ≤ upto_of s.kind h g → next_shipment s h g ≡ None
  next_over all = find_nowhere (can s h g) (shipments s.kind) (rows h) (λ i d short. passed i d (omega (arith, count_is m s h at.state)))

  module _ (u : ℕ) (so : u ≡ upto_of s.kind h g) (k : KeptWrite) (is : slice_get m.kept.items u ≡ Some k) where
    short : u < length (rows h)
    short = omega (arith, count_is m s h at.state, slice_get_within m.kept.items u k is)

    kept : IsKept s h m.newest (u + 1) k
    kept = kept_is m s h at.state (u + 1) k (omega arith) (ap (λ (i : ℕ). slice_get m.kept.items i) (omega arith) ∙ is)

    row : get_or (rows h) u k.row ≡ k.row
    row = row_is m s h at.state u k k.row (slice_get_within m.kept.items u k is) ∙ ap (λ (x : KeptWrite). x.row) (get_or_from_slice_get m.kept.items u k k is)

    number : k.row.version ≡ u + 1
    number = ap (λ (r : Row). r.version) (sym row) ∙ version_at s h at.legal u k.row short

    missing : first_missing k g ≡ find (λ p. not (is_shipped h g k.row.version p)) (parts s.kind k.row)
    missing = missing_of s h m.newest (u + 1) k kept number g (replica_below m s h at g replica)

    pub next_found : (p : ℕ) → first_missing k g ≡ Some p → next_shipment s h g ≡ Some (k.row.version, p)
    next_found p found =
        find_first (can s h g) (shipments s.kind) (rows h) u k.row (k.row.version, p) short (λ i d less. passed i d (omega arith))
        (first_part u k.row short (omega arith)
        ∙ ap (λ (r : Row). option_map (shipment r.version) (find (λ p. not (is_shipped h g r.version p)) (parts s.kind r))) row
        ∙ ap (option_map (shipment k.row.version)) (sym missing ∙ found))

    -- the first row that is not whole misses a part
    pub next_is_there : first_missing k g ≡ None → ⊥
    next_is_there none =
        let whole : is_whole s.kind h g k.row ≡ true = some_fails (λ p. is_shipped h g k.row.version p) (parts s.kind k.row) (sym missing ∙ none) in
        let stops : is_whole s.kind h g (get_or (rows h) (upto_of s.kind h g) k.row) ≡ false = prefix_len_stops (is_whole s.kind h g) (rows h) k.row (omega (arith, short)) in
        let at_u : is_whole s.kind h g k.row ≡ false = ap (is_whole s.kind h g) (sym row ∙ ap (λ (i : ℕ). get_or (rows h) i k.row) so) ∙ stops in
        cc
