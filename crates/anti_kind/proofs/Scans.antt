-- Scans: what they show, and that they never show fewer rows later.
use Rattle.std.proofs.Common.{◌≡◌, Option, ℕ, ◌+◌, ◌<◌, ◌≤◌, Bool, true, false, cond, ◌&&◌, List, [], ◌∷◌, ◌++◌, ◌⊎◌, length, get_or, map, filter, take, All, sym, ap, ◌∙◌, ⊎_elim, ◌==◌, eqb-true, eq-eqb, arith, unwrap_or}
use Rattle.std.specs.Prelude.{bytes_eq, Contains}
use Rattle.std.specs.Ordering.{nat_cmp, is_lt}
use Rattle.std.specs.Cmp.Lexicographic.{slice_cmp}
use Rattle.std.proofs.lemmas.Cmp.{nat_list_eq_equiv}
use Rattle.std.proofs.lemmas.List.{get_or-map, length-map}
use Rattle.std.proofs.lemmas.List.Elements.{All-filter, All-contains, Contains-get_or, filter_passes}
use Rattle.std.proofs.lemmas.List.Kept.{AllPairs-filter}
use Rattle.std.specs.List.Sorted.{IsPermutation}
use Rattle.std.proofs.lemmas.List.Sorted.{IsPermutation-refl, IsPermutation-cons, IsPermutation-trans, IsPermutation-middle, length_permutation, All-permutation, Contains-permutation}
use Rattle.std.proofs.lemmas.Map.Keys.{IsDistinct-from_apart}
use Rattle.std.proofs.lemmas.Map.Made.{length-le_from_is_member, is_member-Decides}
use Rattle.std.proofs.lemmas.Slice.Eq.{bytes_eq-Decides}
use Rattle.std.proofs.lemmas.Bool.{and_parts, and_from, cases_lt, false_from_ne_true}
use Rattle.anti_kind.specs.declared.call.Call.TheVariants.{Scan}
use Rattle.anti_kind.specs.declared.entry.Entry.{Entry}
use Rattle.anti_kind.specs.declared.row.Row.{Row}
use Rattle.anti_kind.specs.Stored.{rows, row_of}
use Rattle.anti_kind.specs.Store.{Store, absent, is_written, shown_row, by_key, sorted, scanned}
use Rattle.anti_kind.specs.Objects.{store, IsLegal}
use Rattle.anti_kind.specs.Laws.{NeverFalls, id_of, ShowsWritten, IsRight}
use Rattle.anti_kind.specs.Replies.{speaks_of}
use Rattle.anti_kind.proofs.Histories.{legal_front}
use Rattle.anti_kind.proofs.Rows.{version_at, versions_grow, row_in}
use Rattle.anti_kind.proofs.Finding.{Found, find_found, filter_contains}
use Rattle.anti_kind.proofs.Showing.{bytes_same, IsWritten, row_written}

-- Rows put in order by their keys are the same rows.

-- a row put in its place, before the first greater key or behind the row x
placed : (b : Bool) (r x : Row) (rs : List Row) → IsPermutation (r ∷ rs) (by_key r rs) → IsPermutation (r ∷ x ∷ rs) (cond b (r ∷ x ∷ rs) (x ∷ by_key r rs))
placed true r x rs later = IsPermutation-refl (r ∷ x ∷ rs)
placed false r x rs later =
    IsPermutation-trans (r ∷ x ∷ rs) (x ∷ r ∷ rs) (x ∷ by_key r rs) (IsPermutation-middle (r ∷ []) x rs) (IsPermutation-cons x (r ∷ rs) (by_key r rs) later)

by_key_permutes : (r : Row) (rs : List Row) → IsPermutation (r ∷ rs) (by_key r rs)
by_key_permutes r [] = IsPermutation-refl (r ∷ [])
by_key_permutes r (x ∷ rs) = placed (is_lt (slice_cmp nat_cmp r.key x.key)) r x rs (by_key_permutes r rs)

pub sorted_permutes : (rs : List Row) → IsPermutation rs (sorted rs)
sorted_permutes [] = IsPermutation-refl []
sorted_permutes (r ∷ rs) =
    IsPermutation-trans (r ∷ rs) (r ∷ sorted rs) (by_key r (sorted rs)) (IsPermutation-cons r rs (sorted rs) (sorted_permutes rs)) (by_key_permutes r (sorted rs))

length_sorted : (rs : List Row) → length (sorted rs) ≡ length rs
length_sorted rs = length_permutation rs (sorted rs) (sorted_permutes rs)

-- The rows of a scan have different keys. What its regions show is all that counts of the store s: the history is one of the store t.

abbrev in_scan : Store → List Entry → ℕ → List ℕ → Row → Bool
in_scan s h g prefix r = bytes_eq prefix (take (length prefix) r.key) && (s.shows h g r.key == r.version)

abbrev scan_rows : Store → List Entry → ℕ → List ℕ → List Row
scan_rows s h g prefix = filter (in_scan s h g prefix) (rows h)

abbrev scan_keys : Store → List Entry → ℕ → List ℕ → List (List ℕ)
scan_keys s h g prefix = map (λ r. r.key) (scan_rows s h g prefix)

-- what a store shows for a key is 0 or the version of a write with that key
abbrev pub HasWritten : Store → List Entry → ℕ → Type 0
HasWritten s h g = (k : List ℕ) → (s.shows h g k ≡ 0) ⊎ (is_written h (id_of s k (s.shows h g k)) ≡ true)

module _ (t : Store) (h : List Entry) (l : IsLegal (store t) h) (s : Store) (g : ℕ) (prefix : List ℕ) where
  is_version : (i : ℕ) (d : Row) → i < length (scan_rows s h g prefix) → s.shows h g (get_or (scan_rows s h g prefix) i d).key ≡ (get_or (scan_rows s h g prefix) i d).version
  is_version i d short =
      let on : in_scan s h g prefix (get_or (scan_rows s h g prefix) i d) ≡ true = filter_passes (in_scan s h g prefix) (rows h) i d short in
      eqb-true _ _ (and_parts (bytes_eq prefix (take (length prefix) (get_or (scan_rows s h g prefix) i d).key)) _ on).1

  apart : (i j : ℕ) (d : List ℕ) → i < j → j < length (scan_keys s h g prefix) → bytes_eq (get_or (scan_keys s h g prefix) i d) (get_or (scan_keys s h g prefix) j d) ≡ false
  apart i j d less short =
      let short' : j < length (scan_rows s h g prefix) = omega (arith, length-map (scan_rows s h g prefix) (λ (r : Row). r.key)) in
      let first : get_or (scan_keys s h g prefix) i d ≡ (get_or (scan_rows s h g prefix) i (absent [])).key = get_or-map (λ (r : Row). r.key) (scan_rows s h g prefix) i (absent []) d (omega arith) in
      let second : get_or (scan_keys s h g prefix) j d ≡ (get_or (scan_rows s h g prefix) j (absent [])).key = get_or-map (λ (r : Row). r.key) (scan_rows s h g prefix) j (absent []) d short' in
      let rise : (get_or (scan_rows s h g prefix) i (absent [])).version < (get_or (scan_rows s h g prefix) j (absent [])).version =
      AllPairs-filter (λ (x y : Row). x.version < y.version) (in_scan s h g prefix) (rows h) (versions_grow t h l) i j (absent []) less short' in
      false_from_ne_true _ (λ same.
      let keys : (get_or (scan_rows s h g prefix) i (absent [])).key ≡ (get_or (scan_rows s h g prefix) j (absent [])).key =
      sym first ∙ bytes_same (get_or (scan_keys s h g prefix) i d) (get_or (scan_keys s h g prefix) j d) same ∙ second in
      let a : s.shows h g (get_or (scan_rows s h g prefix) i (absent [])).key ≡ (get_or (scan_rows s h g prefix) i (absent [])).version = is_version i (absent []) (omega arith) in
      let b : s.shows h g (get_or (scan_rows s h g prefix) j (absent [])).key ≡ (get_or (scan_rows s h g prefix) j (absent [])).version = is_version j (absent []) short' in
      omega (arith, ap (λ (k : List ℕ). s.shows h g k) keys))

  -- what is shown for a key of the scan, with its prefix
  pub record IsScanned (k : List ℕ) : Type 0 where
    pub prefixed : bytes_eq prefix (take (length prefix) k) ≡ true
    pub some : 1 ≤ s.shows h g k

  scanned_key : (k : List ℕ) → Contains (scan_keys s h g prefix) k → IsScanned k
  scanned_key k in' =
      let short : in'.0 < length (scan_rows s h g prefix) = omega (arith, in'.1, length-map (scan_rows s h g prefix) (λ (r : Row). r.key)) in
      let r : Row = get_or (scan_rows s h g prefix) in'.0 (absent []) in
      let key : r.key ≡ k = sym (get_or-map (λ (x : Row). x.key) (scan_rows s h g prefix) in'.0 (absent []) k short) ∙ in'.2 in
      let on : in_scan s h g prefix r ≡ true = filter_passes (in_scan s h g prefix) (rows h) in'.0 (absent []) short in
      let both = and_parts (bytes_eq prefix (take (length prefix) r.key)) (s.shows h g r.key == r.version) on in
      let first : 1 ≤ r.version = All-filter (in_scan s h g prefix) (λ (x : Row). 1 ≤ x.version) (rows h) (λ i d within. omega (arith, version_at t h l i d within)) in'.0 (absent []) short in
      record {
        prefixed = ap (λ (x : List ℕ). bytes_eq prefix (take (length prefix) x)) (sym key) ∙ both.0;
        some = omega (arith, first, eqb-true (s.shows h g r.key) r.version both.1, ap (λ (x : List ℕ). s.shows h g x) key);
      }

  -- and each key with the prefix that is shown has its row there
  record HasRow (k : List ℕ) : Type 0 where
    row : Row
    here : Contains (scan_rows s h g prefix) row
    key : row.key ≡ k

  row_scanned : HasWritten s h g → (k : List ℕ) → IsScanned k → HasRow k
  row_scanned written k is =
      ⊎_elim (λ (none : s.shows h g k ≡ 0). absurd (omega (arith, is.some)))
      (λ (some : is_written h (id_of s k (s.shows h g k)) ≡ true).
      let found : (r : Row) × IsWritten h (id_of s k (s.shows h g k)) r = row_written t h l (id_of s k (s.shows h g k)) some in
      let at : Found (λ x. x.version == s.shows h g k) (rows h) found.0 = find_found (λ x. x.version == s.shows h g k) (rows h) found.0 found.1.row in
      let passes : in_scan s h g prefix found.0 ≡ true =
      and_from (bytes_eq prefix (take (length prefix) found.0.key)) (s.shows h g found.0.key == found.0.version)
      (ap (λ (x : List ℕ). bytes_eq prefix (take (length prefix) x)) found.1.key ∙ is.prefixed)
      (eq-eqb (s.shows h g found.0.key) found.0.version (ap (λ (x : List ℕ). s.shows h g x) found.1.key ∙ sym found.1.version)) in
      record { row = found.0; here = (filter_contains (in_scan s h g prefix) (rows h) found.0).1 ((at.index, at.within, at.at found.0), passes); key = found.1.key })
      (written k)

  key_scanned : HasWritten s h g → (k : List ℕ) → IsScanned k → Contains (scan_keys s h g prefix) k
  key_scanned written k is =
      let has : HasRow k = row_scanned written k is in (
        has.here.0,
        omega (arith, has.here.1, length-map (scan_rows s h g prefix) (λ (r : Row). r.key)),
        get_or-map (λ (x : Row). x.key) (scan_rows s h g prefix) has.here.0 has.row k has.here.1 ∙ ap (λ (x : Row). x.key) has.here.2 ∙ has.key,
      )

module _ (s : Store) (h : List Entry) (l : IsLegal (store s) h) (g : ℕ) (prefix : List ℕ) where
  -- What holds of each row of the history that has the prefix and whose version its key shows holds of each row of the scan.
  pub all_scanned : (P : Row → Type 0) → ((r : Row) → Contains (rows h) r → bytes_eq prefix (take (length prefix) r.key) ≡ true → s.shows h g r.key ≡ r.version → P r) → All P (scanned s h g prefix)
  all_scanned P holds =
      All-permutation P (scan_rows s h g prefix) (scanned s h g prefix) (sorted_permutes (scan_rows s h g prefix)) (λ i d short.
      let r : Row = get_or (scan_rows s h g prefix) i d in
      let in' : Contains (rows h) r × (in_scan s h g prefix r ≡ true) = (filter_contains (in_scan s h g prefix) (rows h) r).0 (Contains-get_or (scan_rows s h g prefix) i d short) in
      let both = and_parts (bytes_eq prefix (take (length prefix) r.key)) (s.shows h g r.key == r.version) in'.1 in
      holds r in'.0 both.0 (eqb-true (s.shows h g r.key) r.version both.1))

  -- A scan shows what its region shows.

  row_right : (r : Row) → Contains (rows h) r → bytes_eq prefix (take (length prefix) r.key) ≡ true → s.shows h g r.key ≡ r.version → (speaks_of r.key (Scan g prefix) ≡ true) × (r ≡ shown_row s h g r.key)
  row_right r in' prefixed shown = (prefixed, sym (ap (λ (v : ℕ). unwrap_or (row_of h v) (absent r.key)) shown ∙ ap (λ (o : Option Row). unwrap_or o (absent r.key)) (row_in s h l r in')))

  some_or_none : (n : ℕ) → (1 ≤ n → ⊥) → n ≡ 0
  some_or_none n none = ⊎_elim (λ (low : n < 1). omega arith) (λ (some : 1 ≤ n). absurd (none some)) (cases_lt n 1)

  pub scan_right : ShowsWritten s → IsRight s h g (Scan g prefix) (scanned s h g prefix)
  scan_right written = record {
    rows_are = all_scanned (λ r. (speaks_of r.key (Scan g prefix) ≡ true) × (r ≡ shown_row s h g r.key)) row_right;
    absent = λ k spoken none. some_or_none (s.shows h g k) (λ some.
        let has : HasRow s h l s g prefix k = row_scanned s h l s g prefix (written h l g) k (record { prefixed = spoken; some = some }) in
        let here : Contains (rows h) has.row = ((filter_contains (in_scan s h g prefix) (rows h) has.row).0 has.here).0 in
        let version : has.row.version ≡ here.0 + 1 = ap (λ (x : Row). x.version) (sym here.2) ∙ version_at s h l here.0 has.row here.1 in
        let none' : has.row.version ≡ 0 =
        All-contains (λ (r : Row). r.key ≡ k → r.version ≡ 0) (scanned s h g prefix) has.row none
        (Contains-permutation (scan_rows s h g prefix) (scanned s h g prefix) has.row (sorted_permutes (scan_rows s h g prefix)) has.here) has.key in
        absurd (omega arith));
  }

-- A scan shows no more rows than another that shows something for each key for which it does.
no_more : (t u : Store) (h k : List Entry) (l : IsLegal (store t) h) (m : IsLegal (store u) k) (s r : Store) (g : ℕ) (prefix : List ℕ) → HasWritten r k g
    → ((key : List ℕ) → 1 ≤ s.shows h g key → 1 ≤ r.shows k g key) → length (scanned s h g prefix) ≤ length (scanned r k g prefix)
no_more t u h k l m s r g prefix written some =
    let keys : length (scan_keys s h g prefix) ≤ length (scan_keys r k g prefix) =
    length-le_from_is_member nat_list_eq_equiv (scan_keys s h g prefix) (scan_keys r k g prefix)
    (IsDistinct-from_apart bytes_eq (scan_keys s h g prefix) (apart t h l s g prefix))
    (λ key in'.
    let was : IsScanned t h l s g prefix key = scanned_key t h l s g prefix key ((is_member-Decides bytes_eq-Decides (scan_keys s h g prefix) key).0 in') in
    (is_member-Decides bytes_eq-Decides (scan_keys r k g prefix) key).1 (key_scanned u k m r g prefix written key (record { prefixed = was.prefixed; some = some key was.some }))) in
    omega (arith, length_sorted (scan_rows s h g prefix), length_sorted (scan_rows r k g prefix), length-map (scan_rows s h g prefix) (λ (r : Row). r.key), length-map (scan_rows r k g prefix) (λ (r : Row). r.key))

pub scan_grows : (s : Store) → NeverFalls s → ShowsWritten s → (h rest : List Entry) → IsLegal (store s) (h ++ rest) → (g : ℕ) (prefix : List ℕ) → length (scanned s h g prefix) ≤ length (scanned s (h ++ rest) g prefix)
scan_grows s rises written h rest l g prefix =
    no_more s s h (h ++ rest) (legal_front (store s) h rest l) l s s g prefix (written (h ++ rest) l g) (λ k some. omega (arith, some, rises h rest l g k))

-- After a legal history two stores that show something for the same keys show as many rows.
pub scans_alike : (s r : Store) (h : List Entry) → IsLegal (store s) h → (g : ℕ) (prefix : List ℕ) → HasWritten s h g → HasWritten r h g
    → ((k : List ℕ) → 1 ≤ s.shows h g k → 1 ≤ r.shows h g k) → ((k : List ℕ) → 1 ≤ r.shows h g k → 1 ≤ s.shows h g k)
    → length (scanned s h g prefix) ≡ length (scanned r h g prefix)
scans_alike s r h l g prefix written has there back =
    omega (arith, no_more s s h h l l s r g prefix has there, no_more s s h h l l r s g prefix written back)
