-- A scan reads its rows off the numbers of the keys, which ascend: these are the rows of the table's scan, in its order.
use Rattle.std.proofs.Common.{◌≡◌, ℕ, suc, ◌+◌, ◌<◌, ◌≤◌, Bool, true, false, cond, ◌&&◌, List, [], ◌∷◌, length, get_or, take, filter, Option, Some, None, find, All, refl, sym, ap, subst, ◌∙◌, inl, ⊎_elim, ◌==◌, eqb-true, eq-eqb, ne_eqb, arith}
use Rattle.std.specs.Prelude.{bytes_eq}
use Rattle.std.specs.List.{AllByRecursion}
use Rattle.std.specs.List.Sorted.{IsStrictlySortedBy}
use Rattle.std.specs.Map.{lookup, keys_of}
use Rattle.std.specs.Option.{is_some}
use Rattle.std.specs.BTreeMap as tree
use Rattle.std.specs.declared.cmp.Ordering.{Ordering}
use Rattle.std.specs.declared.cmp.Ordering.TheVariants.{Less, Equal, Greater}
use Rattle.std.specs.Ordering.{nat_cmp, is_eq, is_lt, ordering_reverse}
use Rattle.std.specs.Cmp.Lexicographic.{slice_cmp}
use Rattle.std.specs.Cmp.{both_ways}
use Rattle.std.proofs.lemmas.Bool.{and_parts, and_right, false_from_ne_true, cases_eq}
use Rattle.std.proofs.lemmas.Cmp.{nat_list_cmp_total}
use Rattle.std.proofs.lemmas.List.Sorted.{length_permutation}
use Rattle.std.proofs.lemmas.List.Sums.{length-filter, count_by-le-length}
use Rattle.std.proofs.lemmas.Map.Text.{is_eq-slice_cmp}
use Rattle.anti_ids.specs.declared.limits.TheConstants.{MOST_UNITS}
use Rattle.anti_ids.specs.Each.{Each}
use Rattle.anti_kind.specs.declared.entry.Entry.{Entry}
use Rattle.anti_kind.specs.declared.row.Row.{Row}
use Rattle.anti_kind.specs.Stored.{rows, row_of, is_whole, shows_of}
use Rattle.anti_kind.specs.Store.{Store, by_key, sorted, scanned}
use Rattle.anti_kind.specs.Objects.{store}
use Rattle.anti_kind.proofs.Bounds.{held_within}
use Rattle.anti_kind.proofs.Finding.{Found, find_found}
use Rattle.anti_kind.proofs.Rows.{Numbered, rows_numbered, rows_held, version_at, row_of_none}
use Rattle.anti_kind.proofs.Scans.{sorted_permutes}
use Rattle.anti_kind.proofs.Showing.{bytes_same, same_bytes, greatest_among, is_among}
use Rattle.anti_replicas.specs.declared.replicas.Replicas.{Replicas}
use Rattle.anti_replicas.specs.inner.Newest.{key_number, at_number, version_by}
use Rattle.anti_replicas.specs.inner.Scans.{before, listed}
use Rattle.anti_replicas.specs.Stores.{At, showing_whole}
use Rattle.anti_replicas.proofs.Numbers.{find_alike, find_nothing}
use Rattle.anti_replicas.proofs.Places.{and_true, and_false}
use Rattle.anti_replicas.proofs.Reading.{any_at}
use Rattle.anti_replicas.proofs.Bringing.{shows_nothing}

-- Keys in their order.

abbrev order : List ℕ → List ℕ → Ordering
order a b = slice_cmp nat_cmp a b

turned : (o p : Ordering) → o ≡ ordering_reverse p → o ≡ Greater → p ≡ Less
turned o Less is greater = refl
turned o Equal is greater = absurd (cc)
turned o Greater is greater = absurd (cc)

-- a key that comes before another differs from it, either way
apart : (a b : List ℕ) → order a b ≡ Less → bytes_eq a b ≡ false
apart a b less = sym (is_eq-slice_cmp a b) ∙ ap is_eq less

apart_back : (a b : List ℕ) → order a b ≡ Less → bytes_eq b a ≡ false
apart_back a b less = false_from_ne_true (bytes_eq b a) (λ on.
    let same : bytes_eq a b ≡ true = same_bytes a b (sym (bytes_same b a on)) in
    let off : bytes_eq a b ≡ false = apart a b less in
    cc)

is_before : (o : Ordering) → is_lt o ≡ true → o ≡ Less
is_before Less on = refl
is_before Equal on = absurd (cc)
is_before Greater on = absurd (cc)

-- one that does not come before another key comes behind it
behind : (a b : List ℕ) → is_lt (order a b) ≡ false → bytes_eq a b ≡ false → order b a ≡ Less
behind a b off differs = by_order (order a b) refl where
  by_order : (o : Ordering) → order a b ≡ o → order b a ≡ Less
  by_order Less is = let on : is_lt (order a b) ≡ true = ap is_lt is in absurd (cc)
  by_order Equal is = let same : bytes_eq a b ≡ true = sym (is_eq-slice_cmp a b) ∙ ap is_eq is in absurd (cc)
  by_order Greater is = turned (order a b) (order b a) (nat_list_cmp_total.antisymm a b) is

-- The row of a key, in a list.

abbrev at_key : List Row → List ℕ → Option Row
at_key rs k = find (λ r. bytes_eq r.key k) rs

-- each row's key comes before those behind it
abbrev Rises : List Row → Type 0
Rises [] = Unit {0}
Rises (r ∷ rs) = Each (λ x. order r.key x.key ≡ Less) rs × Rises rs

-- no key comes twice
abbrev Distinct : List Row → Type 0
Distinct [] = Unit {0}
Distinct (r ∷ rs) = (at_key rs r.key ≡ None) × Distinct rs

none_above : (k : List ℕ) (rs : List Row) → Each (λ x. order k x.key ≡ Less) rs → at_key rs k ≡ None
none_above k [] each = refl
none_above k (r ∷ rs) each = rw (apart_back k r.key each.0) (none_above k rs each.1)

each_above : (a b : List ℕ) (rs : List Row) → order a b ≡ Less → Each (λ x. order b x.key ≡ Less) rs → Each (λ x. order a x.key ≡ Less) rs
each_above a b [] less each = tt
each_above a b (r ∷ rs) less each = (nat_list_cmp_total.trans a b r.key less each.0, each_above a b rs less each.1)

first_of : (r : Row) (rs : List Row) → at_key (r ∷ rs) r.key ≡ Some r
first_of r rs = rw (same_bytes r.key r.key refl) refl

-- behind two rows of one key the rows are the same, if they are with these
same_rest : (x y : Row) (xs ys : List Row) → x.key ≡ y.key → Rises (x ∷ xs) → Rises (y ∷ ys) → ((k : List ℕ) → at_key (x ∷ xs) k ≡ at_key (y ∷ ys) k)
    → (k : List ℕ) → at_key xs k ≡ at_key ys k
same_rest x y xs ys key up up' same k = by_test (bytes_eq x.key k) refl where
  by_test : (b : Bool) → bytes_eq x.key k ≡ b → at_key xs k ≡ at_key ys k
  by_test true on =
      let is : x.key ≡ k = bytes_same x.key k on in
      ap (at_key xs) (sym is) ∙ none_above x.key xs up.0
      ∙ sym (ap (at_key ys) (sym is ∙ key) ∙ none_above y.key ys up'.0)
  by_test false off =
      let off' : bytes_eq y.key k ≡ false = ap (λ (a : List ℕ). bytes_eq a k) (sym key) ∙ off in
      let left : at_key (x ∷ xs) k ≡ at_key xs k = rw off refl in
      let right : at_key (y ∷ ys) k ≡ at_key ys k = rw off' refl in
      sym left ∙ same k ∙ right

-- two lists that rise and have the same row for each key are the same
same_rows : (xs ys : List Row) → Rises xs → Rises ys → ((k : List ℕ) → at_key xs k ≡ at_key ys k) → xs ≡ ys
same_rows [] [] up up' same = refl
same_rows [] (y ∷ ys) up up' same = let found : None ≡ Some y = same y.key ∙ first_of y ys in absurd (cc)
same_rows (x ∷ xs) [] up up' same = let found : Some x ≡ None = sym (first_of x xs) ∙ same x.key in absurd (cc)
same_rows (x ∷ xs) (y ∷ ys) up up' same =
    by_order (order x.key y.key) refl (λ key. same_rows xs ys up.1 up'.1 (same_rest x y xs ys key up up' same)) where
      by_order : (o : Ordering) → order x.key y.key ≡ o → (x.key ≡ y.key → xs ≡ ys) → x ∷ xs ≡ y ∷ ys
      by_order Less is rest =
          let found : Some x ≡ at_key (y ∷ ys) x.key = sym (first_of x xs) ∙ same x.key in
          let none : at_key (y ∷ ys) x.key ≡ None = none_above x.key (y ∷ ys) (is, each_above x.key y.key ys is up'.0) in
          absurd (cc)
      by_order Greater is rest =
          let less : order y.key x.key ≡ Less = turned (order x.key y.key) (order y.key x.key) (nat_list_cmp_total.antisymm x.key y.key) is in
          let found : at_key (x ∷ xs) y.key ≡ Some y = same y.key ∙ first_of y ys in
          let none : at_key (x ∷ xs) y.key ≡ None = none_above y.key (x ∷ xs) (less, each_above y.key x.key xs less up.0) in
          absurd (cc)
      by_order Equal is rest =
          let key : x.key ≡ y.key = bytes_same x.key y.key (sym (is_eq-slice_cmp x.key y.key) ∙ ap is_eq is) in
          let one : Some x ≡ Some y = sym (first_of x xs) ∙ same x.key ∙ ap (at_key (y ∷ ys)) key ∙ first_of y ys in
          let first : x ≡ y = cc in
          ap (λ (r : Row). r ∷ xs) first ∙ ap (λ (rs : List Row). y ∷ rs) (rest key)

-- Rows put in order.

at_by_key : (r : Row) (rs : List Row) (k : List ℕ) → at_key rs r.key ≡ None → at_key (by_key r rs) k ≡ cond (bytes_eq r.key k) (Some r) (at_key rs k)
at_by_key r [] k none = refl
at_by_key r (x ∷ rs) k none = by_test (is_lt (order r.key x.key)) (bytes_eq x.key r.key) refl none (λ rest. at_by_key r rs k rest) where
  by_test : (b differs : Bool) → bytes_eq x.key r.key ≡ differs → cond differs (Some x) (at_key rs r.key) ≡ None
      → (at_key rs r.key ≡ None → at_key (by_key r rs) k ≡ cond (bytes_eq r.key k) (Some r) (at_key rs k))
      → at_key (cond b (r ∷ x ∷ rs) (x ∷ by_key r rs)) k ≡ cond (bytes_eq r.key k) (Some r) (cond (bytes_eq x.key k) (Some x) (at_key rs k))
  by_test b true is none' rest = absurd (cc)
  by_test true false is none' rest = refl
  by_test false false is none' rest = by_keys (bytes_eq x.key k) (bytes_eq r.key k) refl refl (rest none') where
    by_keys : (bx br : Bool) → bytes_eq x.key k ≡ bx → bytes_eq r.key k ≡ br → at_key (by_key r rs) k ≡ cond br (Some r) (at_key rs k)
        → cond bx (Some x) (at_key (by_key r rs) k) ≡ cond br (Some r) (cond bx (Some x) (at_key rs k))
    by_keys true true onx onr rest' =
        let same : bytes_eq x.key r.key ≡ true = same_bytes x.key r.key (bytes_same x.key k onx ∙ sym (bytes_same r.key k onr)) in
        absurd (cc)
    by_keys true false onx onr rest' = refl
    by_keys false br onx onr rest' = rest'

each_by_key : (k : List ℕ) (r : Row) (rs : List Row) → order k r.key ≡ Less → Each (λ x. order k x.key ≡ Less) rs → Each (λ x. order k x.key ≡ Less) (by_key r rs)
each_by_key k r [] less each = (less, tt)
each_by_key k r (x ∷ rs) less each = by_test (is_lt (order r.key x.key)) (each_by_key k r rs less each.1) where
  by_test : (b : Bool) → Each (λ y. order k y.key ≡ Less) (by_key r rs) → Each (λ y. order k y.key ≡ Less) (cond b (r ∷ x ∷ rs) (x ∷ by_key r rs))
  by_test true rest = (less, each)
  by_test false rest = (each.0, rest)

rises_by_key : (r : Row) (rs : List Row) → at_key rs r.key ≡ None → Rises rs → Rises (by_key r rs)
rises_by_key r [] none up = (tt, tt)
rises_by_key r (x ∷ rs) none up = by_test (is_lt (order r.key x.key)) refl (bytes_eq x.key r.key) refl none (λ rest. rises_by_key r rs rest up.1) where
  by_test : (b : Bool) → is_lt (order r.key x.key) ≡ b → (differs : Bool) → bytes_eq x.key r.key ≡ differs → cond differs (Some x) (at_key rs r.key) ≡ None
      → (at_key rs r.key ≡ None → Rises (by_key r rs)) → Rises (cond b (r ∷ x ∷ rs) (x ∷ by_key r rs))
  by_test b lt true is none' rest = absurd (cc)
  by_test true lt false is none' rest =
      let less : order r.key x.key ≡ Less = is_before (order r.key x.key) lt in
      ((less, each_above r.key x.key rs less up.0), up)
  by_test false lt false is none' rest =
      let differs : bytes_eq r.key x.key ≡ false = false_from_ne_true (bytes_eq r.key x.key) (λ on.
      let same : bytes_eq x.key r.key ≡ true = same_bytes x.key r.key (sym (bytes_same r.key x.key on)) in cc) in
      (each_by_key x.key r rs (behind r.key x.key lt differs) up.0, rest none')

at_sorted : (rs : List Row) → Distinct rs → (k : List ℕ) → at_key (sorted rs) k ≡ at_key rs k
at_sorted [] distinct k = refl
at_sorted (r ∷ rs) distinct k =
    at_by_key r (sorted rs) k (at_sorted rs distinct.1 r.key ∙ distinct.0)
    ∙ ap (λ (o : Option Row). cond (bytes_eq r.key k) (Some r) o) (at_sorted rs distinct.1 k)

rises_sorted : (rs : List Row) → Distinct rs → Rises (sorted rs)
rises_sorted [] distinct = tt
rises_sorted (r ∷ rs) distinct = rises_by_key r (sorted rs) (at_sorted rs distinct.1 r.key ∙ distinct.0) (rises_sorted rs distinct.1)

-- The rows of a scan: one for each key that shows a version.

find_filter : {X : Type 0} (p q : X → Bool) (xs : List X) → find p (filter q xs) ≡ find (λ x. q x && p x) xs
find_filter {X = X} p q [] = refl
find_filter {X = X} p q (x ∷ xs) = by_test (q x) refl (find_filter p q xs) where
  by_test : (b : Bool) → q x ≡ b → find p (filter q xs) ≡ find (λ y. q y && p y) xs
      → find p (cond b (x ∷ filter q xs) (filter q xs)) ≡ cond (b && p x) (Some x) (find (λ y. q y && p y) xs)
  by_test true on rest = ap (λ (o : Option X). cond (p x) (Some x) o) rest
  by_test false off rest = rest

eqb_sym : (a b : ℕ) → (a == b) ≡ (b == a)
eqb_sym a b =
    ⊎_elim (λ (same : a ≡ b). eq-eqb a b same ∙ sym (eq-eqb b a (sym same))) (λ (other : a ≡ b → ⊥). ne_eqb a b other ∙ sym (ne_eqb b a (λ x. other (sym x)))) (cases_eq a b)

nothing : {X : Type 0} (b : Bool) → cond b (let n : Option X = None in n) None ≡ None
nothing true = refl
nothing false = refl

not_some : {X : Type 0} (o : Option X) → is_some o ≡ false → o ≡ None
not_some None none = refl
not_some (Some x) none = absurd (cc)

zero_both : (b : Bool) → cond {A = ℕ} b 0 0 ≡ 0
zero_both true = refl
zero_both false = refl

module _ (shows : List ℕ → ℕ) (prefix : List ℕ) where
  abbrev in_scan : Row → Bool
  in_scan r = bytes_eq prefix (take (length prefix) r.key) && (shows r.key == r.version)

  none_later : (n : ℕ) (rs : List Row) → Numbered n rs → (r : Row) → r.version ≤ n → shows r.key ≡ r.version → at_key (filter in_scan rs) r.key ≡ None
  none_later n rs all r low is = find_filter (λ x. bytes_eq x.key r.key) in_scan rs ∙ later n rs all low where
    later : (n : ℕ) (rs : List Row) → Numbered n rs → r.version ≤ n → find (λ x. in_scan x && bytes_eq x.key r.key) rs ≡ None
    later n [] all low = refl
    later n (x ∷ rs) all low =
        let off : (in_scan x && bytes_eq x.key r.key) ≡ false = false_from_ne_true (in_scan x && bytes_eq x.key r.key) (λ on.
        let both = and_parts (in_scan x) (bytes_eq x.key r.key) on in
        let shown : shows x.key ≡ x.version = eqb-true (shows x.key) x.version (and_parts (bytes_eq prefix (take (length prefix) x.key)) _ both.0).1 in
        let key : x.key ≡ r.key = bytes_same x.key r.key both.1 in
        omega (arith, all.0, shown, ap shows key)) in
        rw off (later (n + 1) rs all.1 (omega arith))

  distinct_scan : (n : ℕ) (rs : List Row) → Numbered n rs → Distinct (filter in_scan rs)
  distinct_scan n [] all = tt
  distinct_scan n (r ∷ rs) all = by_test (in_scan r) refl (distinct_scan (n + 1) rs all.1) where
    by_test : (b : Bool) → in_scan r ≡ b → Distinct (filter in_scan rs) → Distinct (cond b (r ∷ filter in_scan rs) (filter in_scan rs))
    by_test false off rest = rest
    by_test true on rest =
        (none_later (n + 1) rs all.1 r (omega (arith, all.0)) (eqb-true (shows r.key) r.version (and_parts (bytes_eq prefix (take (length prefix) r.key)) _ on).1), rest)

-- What a scan at the region g finds.
module _ (m : Replicas) (s : Store) (h : List Entry) (at : At m s h) (g : ℕ) (low : g < 8) (prefix : List ℕ) where
  abbrev shows : List ℕ → ℕ
  shows k = shows_of s.kind h g k

  abbrev fits : List ℕ → Bool
  fits k = bytes_eq prefix (take (length prefix) k)

  -- the row that a key gives
  abbrev given : List ℕ → Option Row
  given k = row_of h (cond (fits k) (shows k) 0)

  no_row : row_of h 0 ≡ None
  no_row = row_of_none s h at.legal 0 (inl refl)

  -- the row of the version that is shown for a key has that key
  shown_key : (k : List ℕ) (r : Row) → row_of h (shows k) ≡ Some r → r.key ≡ k
  shown_key k r is =
      ⊎_elim (λ (none : shows k ≡ 0). let no' : row_of h (shows k) ≡ None = ap (row_of h) none ∙ no_row in absurd (cc))
      (λ (among : is_among (shows k) k (rows h) ≡ true).
      let found : Found (λ x. x.version == shows k) (rows h) r = find_found (λ x. x.version == shows k) (rows h) r is in
      let version : r.version ≡ shows k = eqb-true r.version (shows k) found.passes in
      let place : (get_or (rows h) found.index r).version ≡ found.index + 1 = version_at s h at.legal found.index r found.within in
      let number : shows k ≡ 0 + found.index + 1 = omega (arith, version, place, ap (λ (x : Row). x.version) (found.at r)) in
      let key : bytes_eq (get_or (rows h) found.index r).key k ≡ true =
      sym (any_at (λ x. bytes_eq x.key k) 0 (rows h) (rows_numbered s h at.legal) (shows k) found.index r number found.within) ∙ among in
      ap (λ (x : Row). x.key) (sym (found.at r)) ∙ bytes_same (get_or (rows h) found.index r).key k key)
      (greatest_among (is_whole s.kind h g) k (rows h))

  given_key : (k : List ℕ) (r : Row) → given k ≡ Some r → r.key ≡ k
  given_key k r is = by_test (fits k) refl where
    by_test : (b : Bool) → fits k ≡ b → r.key ≡ k
    by_test true on = shown_key k r (ap (λ (b : Bool). row_of h (cond b (shows k) 0)) (sym on) ∙ is)
    by_test false off = let no' : row_of h 0 ≡ Some r = ap (λ (b : Bool). row_of h (cond b (shows k) 0)) (sym off) ∙ is in let none = no_row in absurd (cc)

  -- The table's scan.

  abbrev scan_rows : List Row
  scan_rows = filter (in_scan shows prefix) (rows h)

  passes_alike : (k : List ℕ) (i : ℕ) (d : Row) → i < length (rows h)
      → (in_scan shows prefix (get_or (rows h) i d) && bytes_eq (get_or (rows h) i d).key k) ≡ (fits k && ((get_or (rows h) i d).version == shows k))
  passes_alike k i d short = by_key' (bytes_eq r.key k) refl where
    r : Row
    r = get_or (rows h) i d

    by_key' : (b : Bool) → bytes_eq r.key k ≡ b → (in_scan shows prefix r && b) ≡ (fits k && (r.version == shows k))
    by_key' true on =
        let key : r.key ≡ k = bytes_same r.key k on in
        and_true (in_scan shows prefix r)
        ∙ ap (λ (x : List ℕ). fits x && (shows x == r.version)) key
        ∙ ap (λ (b : Bool). fits k && b) (eqb_sym (shows k) r.version)
    by_key' false off =
        let differs : (r.version == shows k) ≡ false = ne_eqb r.version (shows k) (λ same.
        let place : r.version ≡ i + 1 = version_at s h at.legal i d short in
        ⊎_elim (λ (none : shows k ≡ 0). omega (arith, same, place))
        (λ (among : is_among (shows k) k (rows h) ≡ true).
        let key : is_among (shows k) k (rows h) ≡ bytes_eq r.key k = any_at (λ x. bytes_eq x.key k) 0 (rows h) (rows_numbered s h at.legal) (shows k) i d (omega (arith, same, place)) short in
        absurd (cc))
        (greatest_among (is_whole s.kind h g) k (rows h))) in
        and_false (in_scan shows prefix r) ∙ sym (ap (λ (b : Bool). fits k && b) differs ∙ and_false (fits k))

  at_scan : (k : List ℕ) → at_key scan_rows k ≡ given k
  at_scan k =
      find_filter (λ x. bytes_eq x.key k) (in_scan shows prefix) (rows h)
      ∙ find_alike (λ x. in_scan shows prefix x && bytes_eq x.key k) (λ x. fits k && (x.version == shows k)) (rows h) (passes_alike k)
      ∙ by_test (fits k) refl
    where
      by_test : (b : Bool) → fits k ≡ b → find (λ x. b && (x.version == shows k)) (rows h) ≡ row_of h (cond b (shows k) 0)
      by_test true on = refl
      by_test false off = find_nothing (λ x. false) (rows h) (λ x. refl) ∙ sym no_row

  -- What is read off the numbers.

  abbrev Numbers : Type 0
  Numbers = List (List ℕ × ℕ)

  abbrev has_key : List ℕ → Numbers → Bool
  has_key k es = is_some (lookup (λ x. is_eq (order k x)) es)

  -- each number has what the region shows
  abbrev AreShown : Numbers → Type 0
  AreShown es = Each (λ e. at_number m.newest g e.1 ≡ shows e.0) es

  abbrev Ascends : Numbers → Type 0
  Ascends [] = Unit {0}
  Ascends (e ∷ es) = Each (λ x. order e.0 x.0 ≡ Less) es × Ascends es

  abbrev IsGiven : List ℕ → Option Row → Type 0
  IsGiven k o = (r : Row) → o ≡ Some r → r.key ≡ k

  at_listed : (es : Numbers) → AreShown es → (k : List ℕ) → at_key (listed h m.newest g prefix es) k ≡ cond (has_key k es) (given k) None
  at_listed [] shown k = refl
  at_listed (e ∷ es) shown k =
      ap (λ (v : ℕ). at_key (before (row_of h (cond (fits e.0) v 0)) (listed h m.newest g prefix es)) k) shown.0
      ∙ by_row (given e.0) refl (bytes_eq e.0 k) refl (is_eq (order k e.0)) refl (at_listed es shown.1 k)
    where
      ties : (b t : Bool) → bytes_eq e.0 k ≡ b → is_eq (order k e.0) ≡ t → b ≡ t
      ties b t is tie = both_ways b t
          (λ on. sym tie ∙ is_eq-slice_cmp k e.0 ∙ same_bytes k e.0 (sym (bytes_same e.0 k (is ∙ on))))
          (λ on. sym is ∙ same_bytes e.0 k (sym (bytes_same k e.0 (sym (is_eq-slice_cmp k e.0) ∙ tie ∙ on))))

      by_row : (o : Option Row) → given e.0 ≡ o → (b : Bool) → bytes_eq e.0 k ≡ b → (t : Bool) → is_eq (order k e.0) ≡ t
          → at_key (listed h m.newest g prefix es) k ≡ cond (has_key k es) (given k) None
          → at_key (before o (listed h m.newest g prefix es)) k ≡ cond (is_some (cond t (Some e.1) (lookup (λ x. is_eq (order k x)) es))) (given k) None
      by_row None none true on t tie rest =
          let key : e.0 ≡ k = bytes_same e.0 k on in
          let none' : given k ≡ None = ap given (sym key) ∙ none in
          rest ∙ ap (λ (o : Option Row). cond (has_key k es) o None) none' ∙ nothing (has_key k es)
          ∙ sym (ap (λ (o : Option Row). cond (is_some (cond t (Some e.1) (lookup (λ x. is_eq (order k x)) es))) o None) none' ∙ nothing (is_some (cond t (Some e.1) (lookup (λ x. is_eq (order k x)) es))))
      by_row None none false off t tie rest =
          let off' : t ≡ false = sym (ties false t off tie) in
          rest ∙ ap (λ (b : Bool). cond (is_some (cond b (Some e.1) (lookup (λ x. is_eq (order k x)) es))) (given k) None) (sym off')
      by_row (Some r) some true on t tie rest =
          let key : r.key ≡ e.0 = given_key e.0 r some in
          let on' : bytes_eq r.key k ≡ true = ap (λ (a : List ℕ). bytes_eq a k) key ∙ on in
          let some' : given k ≡ Some r = ap given (sym (bytes_same e.0 k on)) ∙ some in
          let tie' : t ≡ true = sym (ties true t on tie) in
          ap (λ (b : Bool). cond b (Some r) (at_key (listed h m.newest g prefix es) k)) on' ∙ sym some'
          ∙ ap (λ (b : Bool). cond (is_some (cond b (Some e.1) (lookup (λ x. is_eq (order k x)) es))) (given k) None) (sym tie')
      by_row (Some r) some false off t tie rest =
          let off' : bytes_eq r.key k ≡ false = ap (λ (a : List ℕ). bytes_eq a k) (given_key e.0 r some) ∙ off in
          let tie' : t ≡ false = sym (ties false t off tie) in
          ap (λ (b : Bool). cond b (Some r) (at_key (listed h m.newest g prefix es) k)) off' ∙ rest
          ∙ ap (λ (b : Bool). cond (is_some (cond b (Some e.1) (lookup (λ x. is_eq (order k x)) es))) (given k) None) (sym tie')

  each_listed : (k : List ℕ) (es : Numbers) → AreShown es → Each (λ x. order k x.0 ≡ Less) es → Each (λ x. order k x.key ≡ Less) (listed h m.newest g prefix es)
  each_listed k [] shown each = tt
  each_listed k (e ∷ es) shown each =
      subst (λ (v : ℕ). Each (λ x. order k x.key ≡ Less) (before (row_of h (cond (fits e.0) v 0)) (listed h m.newest g prefix es))) (sym shown.0)
      (by_row (given e.0) refl (each_listed k es shown.1 each.1))
    where
      by_row : (o : Option Row) → given e.0 ≡ o → Each (λ x. order k x.key ≡ Less) (listed h m.newest g prefix es) → Each (λ x. order k x.key ≡ Less) (before o (listed h m.newest g prefix es))
      by_row None none rest = rest
      by_row (Some r) some rest = (subst (λ (a : List ℕ). order k a ≡ Less) (sym (given_key e.0 r some)) each.0, rest)

  rises_listed : (es : Numbers) → AreShown es → Ascends es → Rises (listed h m.newest g prefix es)
  rises_listed [] shown up = tt
  rises_listed (e ∷ es) shown up =
      subst (λ (v : ℕ). Rises (before (row_of h (cond (fits e.0) v 0)) (listed h m.newest g prefix es))) (sym shown.0)
      (by_row (given e.0) refl (rises_listed es shown.1 up.1))
    where
      by_row : (o : Option Row) → given e.0 ≡ o → Rises (listed h m.newest g prefix es) → Rises (before o (listed h m.newest g prefix es))
      by_row None none rest = rest
      by_row (Some r) some rest =
          (subst (λ (a : List ℕ). Each (λ x. order a x.key ≡ Less) (listed h m.newest g prefix es)) (sym (given_key e.0 r some)) (each_listed e.0 es shown.1 up.0), rest)

  -- a key without a number gives nothing
  no_number : (k : List ℕ) → has_key k m.newest.numbers.entries ≡ false → given k ≡ None
  no_number k none =
      let number : key_number m.newest k ≡ None = not_some (key_number m.newest k) none in
      let nothing' : shows k ≡ 0 = sym (at.state.shows g k low) ∙ ap (λ (o : Option ℕ). version_by m.newest g o) number in
      ap (λ (v : ℕ). row_of h (cond (fits k) v 0)) nothing' ∙ ap (row_of h) (zero_both (fits k)) ∙ no_row

  pub listed_is : Ascends m.newest.numbers.entries → AreShown m.newest.numbers.entries → listed h m.newest g prefix m.newest.numbers.entries ≡ scanned (showing_whole s) h g prefix
  listed_is up shown =
      same_rows (listed h m.newest g prefix m.newest.numbers.entries) (sorted scan_rows) (rises_listed m.newest.numbers.entries shown up)
      (rises_sorted scan_rows (distinct_scan shows prefix 0 (rows h) (rows_numbered s h at.legal)))
      (λ k. at_listed m.newest.numbers.entries shown k ∙ by_test k (has_key k m.newest.numbers.entries) refl
      ∙ sym (at_sorted scan_rows (distinct_scan shows prefix 0 (rows h) (rows_numbered s h at.legal)) k ∙ at_scan k))
    where
      by_test : (k : List ℕ) (b : Bool) → has_key k m.newest.numbers.entries ≡ b → cond b (given k) None ≡ given k
      by_test k true on = refl
      by_test k false off = sym (no_number k off)

  -- the numbers as the map shows them
  pub numbers_shown : (es : Numbers) → All (λ e. tree.get (slice_cmp nat_cmp) m.newest.numbers e.0 ≡ Some e.1) es → AreShown es
  numbers_shown [] all = tt
  numbers_shown (e ∷ es) all = (
    ap (λ (o : Option ℕ). version_by m.newest g o) (sym (all 0 e (omega arith))) ∙ at.state.shows g e.0 low,
    numbers_shown es (λ i d short. all (suc i) d (omega arith)),
  )

  each_key : (P : List ℕ → Type 0) (es : Numbers) → AllByRecursion P (keys_of es) → Each (λ e. P e.0) es
  each_key P [] all = tt
  each_key P (e ∷ es) all = (all.0, each_key P es all.1)

  pub numbers_ascend : (es : Numbers) → IsStrictlySortedBy (slice_cmp nat_cmp) (keys_of es) → Ascends es
  unfolding IsStrictlySortedBy
  numbers_ascend [] up = tt
  numbers_ascend (e ∷ es) up = (each_key (λ k. order e.0 k ≡ Less) es up.0, numbers_ascend es up.1)

-- at a region that is none a scan finds nothing
module _ (m : Replicas) (s : Store) (h : List Entry) (at : At m s h) (g : ℕ) (above : 8 ≤ g) (prefix : List ℕ) where
  none_scanned : (n : ℕ) (rs : List Row) → Numbered n rs → filter (in_scan (λ k. shows_of s.kind h g k) prefix) rs ≡ []
  none_scanned n [] all = refl
  none_scanned n (r ∷ rs) all =
      let off : in_scan (λ k. shows_of s.kind h g k) prefix r ≡ false =
      and_right (bytes_eq prefix (take (length prefix) r.key)) _ (ne_eqb (shows_of s.kind h g r.key) r.version (λ same. omega (arith, all.0, same, shows_nothing m s h at g r.key above))) in
      rw off (none_scanned (n + 1) rs all.1)

  pub scans_nothing : scanned (showing_whole s) h g prefix ≡ []
  scans_nothing = ap sorted (none_scanned 0 (rows h) (rows_numbered s h at.legal))

-- What the loops over the numbers list, from what the map says of its entries.
pub listing : (m : Replicas) (s : Store) (h : List Entry) → At m s h → (g : ℕ) → g < 8 → (prefix : List ℕ) → IsStrictlySortedBy (slice_cmp nat_cmp) (keys_of m.newest.numbers.entries)
    → All (λ e. tree.get (slice_cmp nat_cmp) m.newest.numbers e.0 ≡ Some e.1) m.newest.numbers.entries
    → listed h m.newest g prefix m.newest.numbers.entries ≡ scanned (showing_whole s) h g prefix
listing m s h at g low prefix ordered found =
    listed_is m s h at g low prefix (numbers_ascend m s h at g low prefix m.newest.numbers.entries ordered) (numbers_shown m s h at g low prefix m.newest.numbers.entries found)

-- A scan has at most as many rows as were written, so its units fit an object.

pub scanned_few : (m : Replicas) (s : Store) (h : List Entry) → At m s h → (g : ℕ) (prefix : List ℕ) → length (scanned (showing_whole s) h g prefix) ≤ MOST_UNITS
scanned_few m s h at g prefix =
    let test : Row → Bool = in_scan (λ k. shows_of s.kind h g k) prefix in
    let found : List Row = filter test (rows h) in
    omega (arith, length_permutation found (sorted found) (sorted_permutes found), length-filter test (rows h), count_by-le-length test (rows h), rows_held h, held_within (store s) h at.sane at.legal)

pub length_before : (o : Option Row) (rest : List Row) → is_some o ≡ true → length (before o rest) ≡ length rest + 1
length_before None rest there = absurd (cc)
length_before (Some r) rest there = omega arith
