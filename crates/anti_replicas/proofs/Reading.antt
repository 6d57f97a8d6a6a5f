-- What is read off the rows that are kept, and the loops over lineages, a step at a time.
use Rattle.std.proofs.Common.{◌≡◌, ℕ, zero, suc, ◌+◌, ◌-◌, ◌<◌, ◌≤◌, Bool, true, false, cond, not, ◌&&◌, ◌||◌, List, [], ◌∷◌, ◌++◌, length, get_or, filter, Some, None, refl, sym, ap, subst, ◌∙◌, ◌⊎◌, inl, inr, ⊎_elim, ◌==◌, eq-eqb, ne_eqb, append_assoc, arith}
use Rattle.std.specs.Prelude.{bytes_eq, slice_get}
use Rattle.std.specs.List.{list_all, list_any}
use Rattle.std.specs.declared.cmp.Ordering.{Ordering}
use Rattle.std.specs.declared.cmp.Ordering.TheVariants.{Less, Equal, Greater}
use Rattle.std.specs.Ordering.{ordering_reverse}
use Rattle.std.proofs.lemmas.List.{get_or-map, length-map}
use Rattle.std.proofs.lemmas.Slice.Eq.{bytes_eq-Decides}
use Rattle.std.proofs.lemmas.Option.{get_or_from_slice_get, slice_get_within}
use Rattle.anti_ids.specs.Each.{Each}
use Rattle.anti_ids.specs.declared.id.WriteId.{WriteId}
use Rattle.anti_ids.specs.Ids.{id_cmp, placed, with_id}
use Rattle.anti_ids.specs.Invariants.{IsAscending}
use Rattle.anti_ids.proofs.IdLemmas.{id_total, with_id-last, ascending_filter}
use Rattle.anti_kind.specs.declared.entry.Entry.{Entry}
use Rattle.anti_kind.specs.declared.row.Row.{Row}
use Rattle.anti_kind.specs.Stored.{rows, row_of}
use Rattle.anti_kind.specs.Store.{Store, is_written}
use Rattle.anti_kind.proofs.Rows.{or_false, Numbered, rows_numbered, row_of_at, row_of_none}
use Rattle.anti_replicas.specs.declared.replicas.Replicas.{Replicas}
use Rattle.anti_replicas.specs.declared.kept_write.KeptWrite.{KeptWrite}
use Rattle.anti_replicas.specs.inner.Newest.{key_number}
use Rattle.anti_replicas.specs.inner.Standing.{IsKept, Stands}
use Rattle.anti_replicas.specs.Stores.{At}

module _ (m : Replicas) (s : Store) (h : List Entry) (state : Stands m s h) where
  -- a kept row is the history's row
  pub row_is : (i : ℕ) (d : KeptWrite) (e : Row) → i < length m.kept.items → get_or (rows h) i e ≡ (get_or m.kept.items i d).row
  row_is i d e lt = ap (λ (rs : List Row). get_or rs i e) (sym state.rows_are) ∙ get_or-map (λ (k : KeptWrite). k.row) m.kept.items i d e lt

  pub count_is : length (rows h) ≡ length m.kept.items
  count_is = ap (λ (rs : List Row). length rs) (sym state.rows_are) ∙ length-map m.kept.items (λ (k : KeptWrite). k.row)

  -- what is kept of the version v
  pub kept_is : (v : ℕ) (k : KeptWrite) → 1 ≤ v → slice_get m.kept.items (v - 1) ≡ Some k → IsKept s h m.newest v k
  kept_is v k first is =
      let kept : IsKept s h m.newest (v - 1 + 1) (get_or m.kept.items (v - 1) k) = state.kept_are (v - 1) k (slice_get_within m.kept.items (v - 1) k is) in
      let number : v - 1 + 1 ≡ v = omega arith in
      subst (λ (n : ℕ). IsKept s h m.newest n k) number (subst (IsKept s h m.newest (v - 1 + 1)) (get_or_from_slice_get m.kept.items (v - 1) k k is) kept)

-- The row of a version.
module _ (m : Replicas) (s : Store) (h : List Entry) (at : At m s h) (v : ℕ) where
  pub row_there : (k : KeptWrite) → 1 ≤ v → slice_get m.kept.items (v - 1) ≡ Some k → row_of h v ≡ Some k.row
  row_there k first is =
      let within : v - 1 < length m.kept.items = slice_get_within m.kept.items (v - 1) k is in
      let short : v - 1 < length (rows h) = omega (arith, count_is m s h at.state) in
      row_of_at s h at.legal v (v - 1) k.row (omega arith) short
      ∙ ap (λ (r : Row). Some r) (row_is m s h at.state (v - 1) k k.row within ∙ ap (λ (x : KeptWrite). x.row) (get_or_from_slice_get m.kept.items (v - 1) k k is))

  pub row_absent : (v ≡ 0) ⊎ (length m.kept.items < v) → row_of h v ≡ None
  row_absent out =
      row_of_none s h at.legal v (⊎_elim (λ (low : v ≡ 0). inl low) (λ (high : length m.kept.items < v). inr (omega (arith, count_is m s h at.state))) out)

-- A row by its version, with a test.

any_none : (q : Row → Bool) (n : ℕ) (rs : List Row) → Numbered n rs → (v : ℕ) → (v ≤ n) ⊎ (n + length rs < v) → list_any (λ r. (r.version == v) && q r) rs ≡ false
any_none q n [] all v out = refl
any_none q n (r ∷ rest) all v out =
    let off : (r.version == v) ≡ false = ne_eqb r.version v (λ same. ⊎_elim (λ (low : v ≤ n). omega (arith, all.0)) (λ (high : n + suc (length rest) < v). omega (arith, all.0)) out) in
    rw off (any_none q (n + 1) rest all.1 v (⊎_elim (λ (low : v ≤ n). inl (omega arith)) (λ (high : n + suc (length rest) < v). inr (omega arith)) out))

pub any_at : (q : Row → Bool) (n : ℕ) (rs : List Row) → Numbered n rs → (v i : ℕ) (d : Row) → v ≡ n + i + 1 → i < length rs
    → list_any (λ r. (r.version == v) && q r) rs ≡ q (get_or rs i d)
any_at q n [] all v i d is short = absurd (omega arith)
any_at q n (r ∷ rest) all v zero d is short =
    let yes : (r.version == v) ≡ true = eq-eqb r.version v (omega (arith, all.0)) in
    let no : list_any (λ (x : Row). (x.version == v) && q x) rest ≡ false = any_none q (n + 1) rest all.1 v (inl (omega arith)) in
    rw (yes, no) (or_false (q r))
any_at q n (r ∷ rest) all v (suc i) d is short =
    let off : (r.version == v) ≡ false = ne_eqb r.version v (λ same. omega (arith, all.0)) in
    rw off (any_at q (n + 1) rest all.1 v i d (omega arith) (omega arith))

-- Whether an id is that of a write: the key of the row that stands at its version says it.
module _ (m : Replicas) (s : Store) (h : List Entry) (at : At m s h) (id : WriteId) where
  pub not_written : (id.version ≡ 0) ⊎ (length m.kept.items < id.version) → false ≡ is_written h id
  not_written out =
      sym (any_none (λ r. bytes_eq r.key id.key) 0 (rows h) (rows_numbered s h at.legal) id.version
      (⊎_elim (λ (low : id.version ≡ 0). inl (omega arith)) (λ (high : length m.kept.items < id.version). inr (omega (arith, count_is m s h at.state))) out))

  pub written_at : (k : KeptWrite) → 1 ≤ id.version → slice_get m.kept.items (id.version - 1) ≡ Some k → bytes_eq k.row.key id.key ≡ is_written h id
  written_at k first is =
      let within : id.version - 1 < length m.kept.items = slice_get_within m.kept.items (id.version - 1) k is in
      let short : id.version - 1 < length (rows h) = omega (arith, count_is m s h at.state) in
      sym (any_at (λ r. bytes_eq r.key id.key) 0 (rows h) (rows_numbered s h at.legal) id.version (id.version - 1) k.row (omega arith) short
      ∙ ap (λ (r : Row). bytes_eq r.key id.key) (row_is m s h at.state (id.version - 1) k k.row within ∙ ap (λ (x : KeptWrite). x.row) (get_or_from_slice_get m.kept.items (id.version - 1) k k is)))

  -- and its key has the number that is kept
  pub its_number : (k : KeptWrite) → 1 ≤ id.version → slice_get m.kept.items (id.version - 1) ≡ Some k → bytes_eq k.row.key id.key ≡ true
      → key_number m.newest id.key ≡ Some k.number
  its_number k first is same = ap (key_number m.newest) (sym ((bytes_eq-Decides k.row.key id.key).0 same)) ∙ (kept_is m s h at.state id.version k first is).number

-- The loops over a lineage: an id goes to the end of what was found before it.

turned_back : (o : Ordering) (b : Ordering) → o ≡ ordering_reverse b → b ≡ Less → o ≡ Greater
turned_back o Less e l = e
turned_back o Equal e l = absurd (cc)
turned_back o Greater e l = absurd (cc)

each_before : (xs : List WriteId) (i : WriteId) (ys : List WriteId) (x : WriteId) → Each (λ j. id_cmp x j ≡ Less) (xs ++ i ∷ ys) → id_cmp x i ≡ Less
each_before [] i ys x each = each.0
each_before (j ∷ xs) i ys x each = each_before xs i ys x each.1

-- in an ascending list an id is above those before it
above_before : (xs : List WriteId) (i : WriteId) (ys : List WriteId) → IsAscending (xs ++ i ∷ ys) → Each (λ j. id_cmp i j ≡ Greater) xs
above_before [] i ys asc = tt
above_before (x ∷ xs) i ys asc = (turned_back (id_cmp i x) (id_cmp x i) (id_total.antisymm i x) (each_before xs i ys x asc.0), above_before xs i ys asc.1)

-- where an id fails the test it is found
pub found_one : (test : WriteId → Bool) (found : List WriteId) (i : WriteId) (rest all : List WriteId) → IsAscending all → test i ≡ false
    → found ++ filter (λ x. not (test x)) (i ∷ rest) ≡ filter (λ x. not (test x)) all
    → with_id i found ++ filter (λ x. not (test x)) rest ≡ filter (λ x. not (test x)) all
found_one test found i rest all asc off is =
    let front : filter (λ x. not (test x)) (i ∷ rest) ≡ i ∷ filter (λ x. not (test x)) rest =
    ap (λ (b : Bool). cond (not b) (i ∷ filter (λ x. not (test x)) rest) (filter (λ x. not (test x)) rest)) off in
    let whole : found ++ i ∷ filter (λ x. not (test x)) rest ≡ filter (λ x. not (test x)) all = ap (λ (xs : List WriteId). found ++ xs) (sym front) ∙ is in
    let above : Each (λ j. id_cmp i j ≡ Greater) found =
    above_before found i (filter (λ x. not (test x)) rest) (subst IsAscending (sym whole) (ascending_filter (λ x. not (test x)) all asc)) in
    ap (λ (xs : List WriteId). xs ++ filter (λ x. not (test x)) rest) (with_id-last i found above)
    ∙ append_assoc found (i ∷ []) (filter (λ x. not (test x)) rest) ∙ whole

-- where it passes it is not
pub passed_one : (test : WriteId → Bool) (found : List WriteId) (i : WriteId) (rest all : List WriteId) → test i ≡ true
    → found ++ filter (λ x. not (test x)) (i ∷ rest) ≡ filter (λ x. not (test x)) all
    → found ++ filter (λ x. not (test x)) rest ≡ filter (λ x. not (test x)) all
passed_one test found i rest all on is =
    let front : filter (λ x. not (test x)) (i ∷ rest) ≡ filter (λ x. not (test x)) rest =
    ap (λ (b : Bool). cond (not b) (i ∷ filter (λ x. not (test x)) rest) (filter (λ x. not (test x)) rest)) on in
    ap (λ (xs : List WriteId). found ++ xs) (sym front) ∙ is

length_placed : (o : Ordering) (i j : WriteId) (js further : List WriteId) → length further ≤ length js + 1 → length (placed o i j js further) ≤ length js + 2
length_placed Less i j js further l = omega arith
length_placed Equal i j js further l = omega arith
length_placed Greater i j js further l = omega arith

pub length_with : (i : WriteId) (ids : List WriteId) → length (with_id i ids) ≤ length ids + 1
length_with i [] = omega arith
length_with i (j ∷ js) = let l : length (placed (id_cmp i j) i j js (with_id i js)) ≤ length js + 2 = length_placed (id_cmp i j) i j js (with_id i js) (length_with i js) in omega arith

-- where no item passes a test, all are left that do not pass
pub none_passes : {T : Type 0} (p : T → Bool) (xs : List T) → list_any p xs ≡ false → filter (λ x. not (p x)) xs ≡ xs
none_passes p [] none = refl
none_passes p (x ∷ xs) none = by_test (p x) refl (λ rest. none_passes p xs rest)
  where
    by_test : (b : Bool) → p x ≡ b → (list_any p xs ≡ false → filter (λ y. not (p y)) xs ≡ xs) → filter (λ y. not (p y)) (x ∷ xs) ≡ x ∷ xs
    by_test true is rest = absurd (let both : true ≡ false = sym (ap (λ b. b || list_any p xs) is) ∙ none in cc)
    by_test false is rest =
        ap (λ b. cond (not b) (x ∷ filter (λ y. not (p y)) xs) (filter (λ y. not (p y)) xs)) is
        ∙ ap (λ ys. x ∷ ys) (rest (sym (ap (λ b. b || list_any p xs) is) ∙ none))

-- and where all pass, none
pub all_pass : {T : Type 0} (p : T → Bool) (xs : List T) → list_all p xs ≡ true → filter (λ x. not (p x)) xs ≡ []
all_pass p [] all = refl
all_pass p (x ∷ xs) all = by_test (p x) refl (λ rest. all_pass p xs rest)
  where
    by_test : (b : Bool) → p x ≡ b → (list_all p xs ≡ true → filter (λ y. not (p y)) xs ≡ []) → filter (λ y. not (p y)) (x ∷ xs) ≡ []
    by_test true is rest =
        ap (λ b. cond (not b) (x ∷ filter (λ y. not (p y)) xs) (filter (λ y. not (p y)) xs)) is
        ∙ rest (sym (ap (λ b. b && list_all p xs) is) ∙ all)
    by_test false is rest = absurd (let both : false ≡ true = sym (ap (λ b. b && list_all p xs) is) ∙ all in cc)
