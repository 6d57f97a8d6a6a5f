-- What a region shows: it never falls and is what was written, at each store that shows the greatest version that is whole; and the
-- row that is shown.
use Rattle.std.proofs.Common.{◌≡◌, Option, ℕ, zero, suc, get_or, ◌+◌, ◌<◌, ◌≤◌, max, Bool, true, false, cond, ◌&&◌, List, [], ◌∷◌, ◌++◌, length, Some, refl, sym, ap, ◌∙◌, ◌⊎◌, inl, inr, ⊎_elim, ◌==◌, eqb-true, eq-eqb, arith, unwrap_or}
use Rattle.std.specs.Prelude.{bytes_eq, Contains}
use Rattle.std.specs.List.{list_any, Any}
use Rattle.std.proofs.lemmas.List.Concat.{flat_map-append}
use Rattle.std.proofs.lemmas.List.Folds.{list_any-append, Any-from_list_any}
use Rattle.std.proofs.lemmas.List.Sums.{AllPass-from_list_all, list_all-from_AllPass}
use Rattle.std.proofs.lemmas.List.Elements.{All-weaker, Contains-append_right}
use Rattle.std.proofs.lemmas.Slice.Eq.{bytes_eq-Decides}
use Rattle.std.proofs.lemmas.Bool.{and_parts, and_from, or_left, or_right, cases_lt}
use Rattle.anti_ids.specs.declared.id.WriteId.{WriteId}
use Rattle.anti_kind.specs.declared.entry.Entry.{Entry}
use Rattle.anti_kind.specs.declared.row.Row.{Row}
use Rattle.anti_kind.specs.declared.store_kind.StoreKind.{StoreKind}
use Rattle.anti_kind.specs.Stored.{wrote, rows, row_of, is_ship, is_shipped, is_whole, parts, greatest, shows_of}
use Rattle.anti_kind.specs.Store.{Store, is_written, absent, shown_row}
use Rattle.anti_kind.specs.Objects.{store, IsLegal}
use Rattle.anti_kind.specs.Laws.{NeverFalls, id_of, ShowsWritten}
use Rattle.anti_kind.proofs.Rows.{version_at, row_of_at, row_of_none}

pub bytes_same : (xs ys : List ℕ) → bytes_eq xs ys ≡ true → xs ≡ ys
bytes_same xs ys on = (bytes_eq-Decides xs ys).0 on

pub same_bytes : (xs ys : List ℕ) → xs ≡ ys → bytes_eq xs ys ≡ true
same_bytes xs ys is = (bytes_eq-Decides xs ys).1 is

-- What was shipped stays, and what is whole.

pub rows-append : (h rest : List Entry) → rows (h ++ rest) ≡ rows h ++ rows rest
rows-append h rest = flat_map-append (λ (e : Entry). wrote e.call e.reply) h rest

pub shipped_stays : (h rest : List Entry) (g v p : ℕ) → is_shipped h g v p ≡ true → is_shipped (h ++ rest) g v p ≡ true
shipped_stays h rest g v p was =
    list_any-append (λ (e : Entry). is_ship g v p e.call) h rest ∙ or_left (is_shipped h g v p) (is_shipped rest g v p) was

pub whole_stays : (kind : StoreKind) (h rest : List Entry) (g : ℕ) (r : Row) → is_whole kind h g r ≡ true → is_whole kind (h ++ rest) g r ≡ true
whole_stays kind h rest g r was =
    list_all-from_AllPass (λ p. is_shipped (h ++ rest) g r.version p) (parts kind r)
    (All-weaker (λ (p : ℕ). is_shipped h g r.version p ≡ true) (λ (p : ℕ). is_shipped (h ++ rest) g r.version p ≡ true) (λ p. shipped_stays h rest g r.version p) (parts kind r)
    (AllPass-from_list_all (λ p. is_shipped h g r.version p) (parts kind r) was))

pub written_stays : (h rest : List Entry) (id : WriteId) → is_written h id ≡ true → is_written (h ++ rest) id ≡ true
written_stays h rest id was =
    ap (list_any (λ (r : Row). (r.version == id.version) && bytes_eq r.key id.key)) (rows-append h rest)
    ∙ list_any-append (λ (r : Row). (r.version == id.version) && bytes_eq r.key id.key) (rows h) (rows rest)
    ∙ or_left (is_written h id) _ was

-- The greatest version only grows with the rows and with what passes.

counts_more : (v : ℕ) (b c : Bool) → (b ≡ true → c ≡ true) → cond b v 0 ≤ cond c v 0
counts_more v false c more = omega arith
counts_more v true c more = let on : c ≡ true = more refl in rw on (omega arith)

both_more : (b c d : Bool) → (c ≡ true → d ≡ true) → (b && c) ≡ true → (b && d) ≡ true
both_more b c d more on = let both = and_parts b c on in and_from b d both.0 (more both.1)

pub greatest_grows : (test later : Row → Bool) (k : List ℕ) (rs new : List Row) → ((r : Row) → test r ≡ true → later r ≡ true) → greatest test k rs ≤ greatest later k (rs ++ new)
greatest_grows test later k [] new more = omega arith
greatest_grows test later k (r ∷ rs) new more =
    let first : cond (bytes_eq r.key k && test r) r.version 0 ≤ cond (bytes_eq r.key k && later r) r.version 0 =
    counts_more r.version (bytes_eq r.key k && test r) (bytes_eq r.key k && later r) (both_more (bytes_eq r.key k) (test r) (later r) (more r)) in
    let rest : greatest test k rs ≤ greatest later k (rs ++ new) = greatest_grows test later k rs new more in
    omega arith

pub shows_grow : (kind : StoreKind) (h rest : List Entry) (g : ℕ) (k : List ℕ) → shows_of kind h g k ≤ shows_of kind (h ++ rest) g k
shows_grow kind h rest g k =
    rw (rows-append h rest) (greatest_grows (is_whole kind h g) (is_whole kind (h ++ rest) g) k (rows h) (rows rest) (λ r. whole_stays kind h rest g r))

pub never_falls : (s : Store) → s.shows ≡ shows_of s.kind → NeverFalls s
never_falls s is h rest l g k = rw is (shows_grow s.kind h rest g k)

-- The greatest version is that of a row with the key.

abbrev pub is_among : ℕ → List ℕ → List Row → Bool
is_among v k rs = list_any (λ r. (r.version == v) && bytes_eq r.key k) rs

larger : (b : Bool) (v g : ℕ) → (max (cond b v 0) g ≡ g) ⊎ ((b ≡ true) × (max (cond b v 0) g ≡ v))
larger false v g = inl (omega arith)
larger true v g = ⊎_elim (λ (more : g < v). inr (refl, omega arith)) (λ (less : v ≤ g). inl (omega arith)) (cases_lt g v)

pub greatest_among : (test : Row → Bool) (k : List ℕ) (rs : List Row) → (greatest test k rs ≡ 0) ⊎ (is_among (greatest test k rs) k rs ≡ true)
greatest_among test k [] = inl refl
greatest_among test k (r ∷ rs) =
    ⊎_elim
    (λ (stays : max (cond (bytes_eq r.key k && test r) r.version 0) (greatest test k rs) ≡ greatest test k rs).
    ⊎_elim (λ (none : greatest test k rs ≡ 0). inl (stays ∙ none))
    (λ (found : is_among (greatest test k rs) k rs ≡ true).
    inr (or_right ((r.version == max (cond (bytes_eq r.key k && test r) r.version 0) (greatest test k rs)) && bytes_eq r.key k) _ (ap (λ (v : ℕ). is_among v k rs) stays ∙ found)))
    (greatest_among test k rs))
    (λ (new : (bytes_eq r.key k && test r ≡ true) × (max (cond (bytes_eq r.key k && test r) r.version 0) (greatest test k rs) ≡ r.version)).
    inr (or_left _ _ (and_from _ (bytes_eq r.key k) (eq-eqb r.version _ (sym new.1)) (and_parts (bytes_eq r.key k) (test r) new.0).0)))
    (larger (bytes_eq r.key k && test r) r.version (greatest test k rs))

-- and where there is one, it passes the test
pub record IsGreatest (test : Row → Bool) (k : List ℕ) (rs : List Row) (r : Row) : Type 0 where
  pub here : Contains rs r
  pub version : r.version ≡ greatest test k rs
  pub key : r.key ≡ k
  pub passes : test r ≡ true

pub greatest_passes : (test : Row → Bool) (k : List ℕ) (rs : List Row) → 1 ≤ greatest test k rs → (r : Row) × IsGreatest test k rs r
greatest_passes test k [] some = absurd (omega arith)
greatest_passes test k (r ∷ rs) some =
    ⊎_elim
    (λ (stays : max (cond (bytes_eq r.key k && test r) r.version 0) (greatest test k rs) ≡ greatest test k rs).
    let found : (x : Row) × IsGreatest test k rs x = greatest_passes test k rs (omega arith) in
    (found.0, record { here = Contains-append_right (r ∷ []) rs found.0 found.1.here; version = found.1.version ∙ sym stays; key = found.1.key; passes = found.1.passes }))
    (λ (new : (bytes_eq r.key k && test r ≡ true) × (max (cond (bytes_eq r.key k && test r) r.version 0) (greatest test k rs) ≡ r.version)).
    let both = and_parts (bytes_eq r.key k) (test r) new.0 in
    (r, record { here = (0, omega arith, refl); version = sym new.1; key = bytes_same r.key k both.0; passes = both.1 }))
    (larger (bytes_eq r.key k && test r) r.version (greatest test k rs))

-- it is at least that of each row with the key that passes
pub greatest_least : (test : Row → Bool) (k : List ℕ) (rs : List Row) (i : ℕ) (d : Row) → i < length rs → bytes_eq (get_or rs i d).key k ≡ true → test (get_or rs i d) ≡ true → (get_or rs i d).version ≤ greatest test k rs
greatest_least test k [] i d short same on = absurd (omega arith)
greatest_least test k (r ∷ rs) zero d short same on =
    let here : cond (bytes_eq r.key k && test r) r.version 0 ≡ r.version = ap (λ (b : Bool). cond b r.version 0) (and_from (bytes_eq r.key k) (test r) same on) in omega arith
greatest_least test k (r ∷ rs) (suc i) d short same on = let rest : (get_or rs i d).version ≤ greatest test k rs = greatest_least test k rs i d (omega arith) same on in omega arith

pub shows_written : (s : Store) → s.shows ≡ shows_of s.kind → ShowsWritten s
shows_written s is h l g k = rw is (greatest_among (is_whole s.kind h g) k (rows h))

-- A version that was written has its row.

pub record IsWritten (h : List Entry) (id : WriteId) (r : Row) : Type 0 where
  pub row : row_of h id.version ≡ Some r
  pub version : r.version ≡ id.version
  pub key : r.key ≡ id.key
  pub within : id.version ≤ length (rows h)

pub row_written : (s : Store) (h : List Entry) → IsLegal (store s) h → (id : WriteId) → is_written h id ≡ true → (r : Row) × IsWritten h id r
row_written s h l id on =
    let found : Any (λ r. ((r.version == id.version) && bytes_eq r.key id.key) ≡ true) (rows h) = Any-from_list_any (λ r. (r.version == id.version) && bytes_eq r.key id.key) (rows h) on in
    let short : found.0 < length (rows h) = found.2 in
    let both = and_parts (found.1.version == id.version) (bytes_eq found.1.key id.key) found.4 in
    let version : found.1.version ≡ id.version = eqb-true found.1.version id.version both.0 in
    let place : found.1.version ≡ found.0 + 1 = ap (λ (x : Row). x.version) (sym found.3) ∙ version_at s h l found.0 found.1 short in (
      found.1,
      record {
        row = row_of_at s h l id.version found.0 found.1 (sym version ∙ place) short ∙ ap Some found.3;
        version = version;
        key = bytes_same found.1.key id.key both.1;
        within = omega arith;
      },
    )

-- The row that a region shows for a key has that key and the version shown.

pub record IsShown (s : Store) (h : List Entry) (g : ℕ) (k : List ℕ) : Type 0 where
  pub key : (shown_row s h g k).key ≡ k
  pub version : (shown_row s h g k).version ≡ s.shows h g k

pub is_shown : (s : Store) (h : List Entry) (g : ℕ) (k : List ℕ) → ShowsWritten s → IsLegal (store s) h → IsShown s h g k
is_shown s h g k written l =
    ⊎_elim
    (λ (none : s.shows h g k ≡ 0).
    let is : shown_row s h g k ≡ absent k = ap (λ (o : Option Row). unwrap_or o (absent k)) (row_of_none s h l (s.shows h g k) (inl none)) in
    record { key = ap (λ (r : Row). r.key) is; version = ap (λ (r : Row). r.version) is ∙ sym none })
    (λ (some : is_written h (id_of s k (s.shows h g k)) ≡ true).
    let found : (r : Row) × IsWritten h (id_of s k (s.shows h g k)) r = row_written s h l (id_of s k (s.shows h g k)) some in
    let is : shown_row s h g k ≡ found.0 = ap (λ (o : Option Row). unwrap_or o (absent k)) found.1.row in
    record { key = ap (λ (r : Row). r.key) is ∙ found.1.key; version = ap (λ (r : Row). r.version) is ∙ found.1.version })
    (written h l g k)
