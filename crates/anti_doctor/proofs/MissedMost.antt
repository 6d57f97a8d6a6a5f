-- What is found under the keys of a read is what the read misses most.
use Rattle.std.proofs.Common.{◌≡◌, ℕ, zero, suc, ◌<◌, ◌≤◌, ◌&&◌, ◌++◌, Bool, true, false, cond, nat_lt, List, [], ◌∷◌, length, get_or, refl, sym, ap, ◌∙◌, subst, inl, inr, eqb-true, arith}
use Rattle.std.specs.Prelude.{◌==◌, ◌⊎◌, All, AllPairs, Contains, Option, None, Some, bytes_eq, slice_get}
use Rattle.std.specs.BTreeMap as tree
use Rattle.std.specs.BTreeMap.Range.{entries_between}
use Rattle.std.specs.Cmp.Lexicographic.{slice_cmp}
use Rattle.std.specs.Global.{Vec}
use Rattle.std.specs.Option.{option_map_or, option_to_list}
use Rattle.std.specs.Ordering.{is_le, nat_cmp, ordering_then}
use Rattle.std.specs.declared.cmp.Ordering.{Ordering}
use Rattle.std.specs.declared.cmp.Ordering.TheVariants.{Less, Equal}
use Rattle.std.specs.declared.ops.Bound.TheVariants.{Included, Unbounded}
use Rattle.std.proofs.lemmas.Bool.{and_from, and_parts, cases_order, eq-eqb, false_from_ne_true, lt-ltb, ltb-true}
use Rattle.std.proofs.lemmas.Cmp.{nat_cmp_total, tied_itself}
use Rattle.std.proofs.lemmas.List.{get_or-map, length-map}
use Rattle.std.proofs.lemmas.List.Elements.{All-contains, All-tail, All-head, All-weaker, Contains-append_cases, Contains-append_left, Contains-append_right, Contains-get_or, filter_passes}
use Rattle.std.proofs.lemmas.List.Kept.{AllPairs-cons, AllPairs-filter}
use Rattle.std.proofs.lemmas.Map.Keys.{Less-from_sorted}
use Rattle.std.proofs.lemmas.Map.Views.{All-found, Contains-from_lookup}
use Rattle.anti_ids.specs.declared.id.WriteId.{WriteId}
use Rattle.anti_kind.specs.declared.entry.Entry.{Entry}
use Rattle.anti_kind.specs.Replies.{speaks_of}
use Rattle.anti_kind.proofs.Finding.{filter_contains}
use Rattle.anti_kind.proofs.Showing.{bytes_same}
use Rattle.anti_app.specs.declared.app.App.{App}
use Rattle.anti_trace.specs.Legal.{IsLegalTrace}
use Rattle.law_causal.proofs.Lists.{place_of}
use Rattle.law_serial.specs.Order.{writes_at}
use Rattle.law_serial.specs.Serial.{version_shown}
use Rattle.law_serial.proofs.Pasts.{is_at_there}
use Rattle.anti_order.specs.inner.NumberSets.{has}
use Rattle.anti_order.specs.inner.Writes.{number_at}
use Rattle.anti_doctor.specs.declared.write_index.StoreKey.{StoreKey}
use Rattle.anti_doctor.specs.Missed.{AreMissedAt, HasLowerKey, MissesMost, is_later, is_newer, is_over_at, misses, write_at}
use Rattle.anti_doctor.specs.inner.Indexes.{IsIndexOf, key_cmp, key_of, places_before}
use Rattle.anti_doctor.specs.inner.Missing.{Ascend, is_missed, is_spoken, key_from, missed_from, missed_under, newest_of, version_at}
use Rattle.anti_doctor.proofs.KeyOrder.{key_total, same_key_is}
use Rattle.anti_doctor.proofs.KeyWrites.{IsKeyWrite, ascend, earlier_lower, each_writes, in_places, version_of, writes_of}
use Rattle.anti_doctor.proofs.Newest.{IsNewest, newest_is, none_from}
use Rattle.anti_doctor.proofs.Spoken.{spoken_between, spoken_first}

-- ---- lists

abbrev Keyed : Type 0
Keyed = StoreKey × Vec ℕ

abbrev Lower : Keyed → Keyed → Type 0
Lower x y = key_cmp x.0 y.0 ≡ Less

heads_lower : (x : Keyed) (xs : List Keyed) → AllPairs Lower (x ∷ xs) → All (Lower x) xs
heads_lower x xs pairs k d low = pairs 0 (suc k) d (omega arith) (omega arith)

tails_lower : (x : Keyed) (xs : List Keyed) → AllPairs Lower (x ∷ xs) → AllPairs Lower xs
tails_lower x xs pairs i j d less low = pairs (suc i) (suc j) d (omega arith) (omega arith)

listed : (o : Option ℕ) (i : ℕ) → Contains (option_to_list o) i → o ≡ Some i
listed None i (k, low, is) = absurd (omega arith)
listed (Some j) i (zero, low, is) = ap Some is
listed (Some j) i (suc k, low, is) = absurd (omega arith)

in_list : (o : Option ℕ) (i : ℕ) → o ≡ Some i → Contains (option_to_list o) i
in_list o i is = subst (λ (p : Option ℕ). Contains (option_to_list p) i) (sym is) (0, omega arith, refl)

head_or_later : {X : Type 0} (y : X) (ys : List X) (x : X) → Contains (y ∷ ys) x → (y ≡ x) ⊎ Contains ys x
head_or_later y ys x (zero, low, is) = inl is
head_or_later y ys x (suc k, low, is) = inr (k, omega arith, is)

in_later : {X : Type 0} (y : X) (ys : List X) (x : X) → Contains ys x → Contains (y ∷ ys) x
in_later y ys x (k, low, is) = (suc k, omega arith, is)

-- ---- what is found under keys

-- something is found under one of the keys, of which the read speaks
record IsFoundUnder (trace : List Entry) (set : List ℕ) (e : Entry) (xs : List Keyed) (i : ℕ) : Type 0 where
  under : Keyed
  among : Contains xs under
  spoken : is_spoken e under.0 ≡ true
  found : missed_under trace set e under ≡ Some i

module _ (trace : List Entry) (set : List ℕ) (e : Entry) where
  found_later : (y : Keyed) (ys : List Keyed) (i : ℕ) → IsFoundUnder trace set e ys i → IsFoundUnder trace set e (y ∷ ys) i
  found_later y ys i f = record { under = f.under; among = in_later y ys f.under f.among; spoken = f.spoken; found = f.found }

  found_under : (xs : List Keyed) (i : ℕ) → Contains (missed_from trace set e xs) i → IsFoundUnder trace set e xs i
  found_under [] i (k, low, is) = absurd (omega arith)
  found_under (x ∷ xs) i among = by_test (is_spoken e x.0) refl among (found_under xs i)
    where
      by_test : (t : Bool) → is_spoken e x.0 ≡ t
          → Contains (cond t (option_to_list (missed_under trace set e x) ++ missed_from trace set e xs) []) i
          → (Contains (missed_from trace set e xs) i → IsFoundUnder trace set e xs i) → IsFoundUnder trace set e (x ∷ xs) i
      by_test false is (k, low, at) rest = absurd (omega arith)
      by_test true is inside rest =
          elim (Contains-append_cases (option_to_list (missed_under trace set e x)) (missed_from trace set e xs) i inside) [
            | inl here ↦ record { under = x; among = (0, omega arith, refl); spoken = is; found = listed (missed_under trace set e x) i here }
            | inr later ↦ found_later x xs i (rest later)
          ]

  module _ (first : StoreKey) (from : key_from e.object e.call ≡ Some first) where
    found_all : (xs : List Keyed) → AllPairs Lower xs → All (λ x. is_le (key_cmp first x.0) ≡ true) xs → (i : ℕ)
        → IsFoundUnder trace set e xs i
        → Contains (missed_from trace set e xs) i
    found_all [] lower behind i f = absurd (omega (arith, f.among.1))
    found_all (y ∷ ys) lower behind i f =
        elim (head_or_later y ys f.under f.among) [
          | inl same ↦
              let spoken : is_spoken e y.0 ≡ true = ap (λ (x : Keyed). is_spoken e x.0) same ∙ f.spoken in
              let found : missed_under trace set e y ≡ Some i = ap (missed_under trace set e) same ∙ f.found in
              under_spoken spoken (Contains-append_left (option_to_list (missed_under trace set e y)) (missed_from trace set e ys) i (in_list (missed_under trace set e y) i found))
          | inr later ↦
              let below : Lower y f.under = All-contains (Lower y) ys f.under (heads_lower y ys lower) later in
              let spoken : is_spoken e y.0 ≡ true =
              spoken_between e first from y.0 f.under.0 (All-head (λ x. is_le (key_cmp first x.0) ≡ true) y ys behind) below f.spoken in
              under_spoken spoken
              (Contains-append_right (option_to_list (missed_under trace set e y)) (missed_from trace set e ys) i
              (found_all ys (tails_lower y ys lower) (All-tail (λ x. is_le (key_cmp first x.0) ≡ true) y ys behind) i
              (record { under = f.under; among = later; spoken = f.spoken; found = f.found })))
        ]
      where
        under_spoken : is_spoken e y.0 ≡ true → Contains (option_to_list (missed_under trace set e y) ++ missed_from trace set e ys) i
            → Contains (missed_from trace set e (y ∷ ys)) i
        under_spoken spoken inside =
            subst (λ (t : Bool). Contains (cond t (option_to_list (missed_under trace set e y) ++ missed_from trace set e ys) []) i) (sym spoken) inside

-- ---- one read

module _ (trace : List Entry) (past : ℕ → ℕ → Bool) (set : List ℕ) (r : ℕ) (e : Entry) (at_r : slice_get trace r ≡ Some e)
    (told : (i : ℕ) → writes_at trace i ≡ true → past r i ≡ has set (number_at trace i)) where
  misses_is : (i : ℕ) (w : WriteId) → write_at trace i ≡ Some w → misses trace past r i ≡ (has set (number_at trace i) && is_newer e w)
  misses_is i w at =
      ap (λ (t : Bool). past r i && t) (is_at_there (λ e. option_map_or (is_newer e) (write_at trace i) false) trace r e at_r)
      ∙ ap (λ (found : Option WriteId). past r i && option_map_or (is_newer e) found false) at
      ∙ ap (λ (t : Bool). t && is_newer e w) (told i (writes_of trace i w at))

  -- what it misses is a write, to a key that it speaks of
  missed_write : (i : ℕ) → misses trace past r i ≡ true → (w : WriteId) × (write_at trace i ≡ Some w)
  missed_write i missed = by_found (write_at trace i) refl (sym same ∙ missed)
    where
      same : misses trace past r i ≡ (past r i && option_map_or (is_newer e) (write_at trace i) false)
      same = ap (λ (t : Bool). past r i && t) (is_at_there (λ e. option_map_or (is_newer e) (write_at trace i) false) trace r e at_r)

      by_found : (found : Option WriteId) → write_at trace i ≡ found → (past r i && option_map_or (is_newer e) found false) ≡ true
          → (w : WriteId) × (write_at trace i ≡ Some w)
      by_found None at both = let parts = and_parts (past r i) false both in absurd (cc)
      by_found (Some w) at both = (w, at)

  missed_spoken : (i : ℕ) (w : WriteId) → write_at trace i ≡ Some w → misses trace past r i ≡ true → is_spoken e (key_of w) ≡ true
  missed_spoken i w at missed =
      let parts = and_parts (has set (number_at trace i)) (is_newer e w) (sym (misses_is i w at) ∙ missed) in
      let newer = and_parts (w.store == e.object) (speaks_of w.key e.call && nat_lt (version_shown e.reply w.key) w.version) parts.1 in
      and_from (w.store == e.object) (speaks_of w.key e.call) newer.0
      (and_parts (speaks_of w.key e.call) (nat_lt (version_shown e.reply w.key) w.version) newer.1).0

  -- under a key of which it speaks it misses what is of the set and above the version that it shows
  module _ (q : StoreKey) (spoken : is_spoken e q ≡ true) where
    abbrev test : ℕ → Bool
    test = is_missed trace set (version_shown e.reply q.key)

    missed_from_test : (i : ℕ) (w : WriteId) → write_at trace i ≡ Some w → key_of w ≡ q → test i ≡ true → misses trace past r i ≡ true
    missed_from_test i w at key on =
        let parts = and_parts (nat_lt (version_shown e.reply q.key) (version_at trace i)) (has set (number_at trace i)) on in
        let told_of = and_parts (q.store == e.object) (speaks_of q.key e.call) spoken in
        let stores : (w.store == e.object) ≡ true = ap (λ (x : StoreKey). x.store == e.object) key ∙ told_of.0 in
        let speaks : speaks_of w.key e.call ≡ true = ap (λ (x : StoreKey). speaks_of x.key e.call) key ∙ told_of.1 in
        let above : nat_lt (version_shown e.reply w.key) w.version ≡ true =
        ap (λ (x : StoreKey). nat_lt (version_shown e.reply x.key) w.version) key
        ∙ ap (nat_lt (version_shown e.reply q.key)) (sym (version_of trace i w at))
        ∙ parts.0 in
        misses_is i w at
        ∙ and_from (has set (number_at trace i)) (is_newer e w) parts.1
        (and_from (w.store == e.object) (speaks_of w.key e.call && nat_lt (version_shown e.reply w.key) w.version) stores
        (and_from (speaks_of w.key e.call) (nat_lt (version_shown e.reply w.key) w.version) speaks above))

    test_from_missed : (i : ℕ) (w : WriteId) → write_at trace i ≡ Some w → key_of w ≡ q → misses trace past r i ≡ true → test i ≡ true
    test_from_missed i w at key missed =
        let parts = and_parts (has set (number_at trace i)) (is_newer e w) (sym (misses_is i w at) ∙ missed) in
        let newer = and_parts (w.store == e.object) (speaks_of w.key e.call && nat_lt (version_shown e.reply w.key) w.version) parts.1 in
        let above = (and_parts (speaks_of w.key e.call) (nat_lt (version_shown e.reply w.key) w.version) newer.1).1 in
        and_from (nat_lt (version_shown e.reply q.key) (version_at trace i)) (has set (number_at trace i))
        (ap (nat_lt (version_shown e.reply q.key)) (version_of trace i w at)
        ∙ ap (λ (x : StoreKey). nat_lt (version_shown e.reply x.key) w.version) (sym key)
        ∙ above)
        parts.0

  -- ---- one key

  -- a later write of the same key
  over_is : (i j : ℕ) (v w : WriteId) → write_at trace i ≡ Some v → write_at trace j ≡ Some w → is_over_at trace i j ≡ is_later v w
  over_is i j v w at_i at_j =
      ap (λ (found : Option WriteId). option_map_or (λ v. option_map_or (is_later v) (write_at trace j) false) found false) at_i
      ∙ ap (λ (found : Option WriteId). option_map_or (is_later v) found false) at_j

  over_key : (v w : WriteId) → is_later v w ≡ true → (key_of w ≡ key_of v) × (v.version < w.version)
  over_key v w later =
      let parts = and_parts (w.store == v.store) (bytes_eq w.key v.key && nat_lt v.version w.version) later in
      let rest = and_parts (bytes_eq w.key v.key) (nat_lt v.version w.version) parts.1 in
      let stores : w.store ≡ v.store = eqb-true w.store v.store parts.0 in
      let keys : w.key ≡ v.key = bytes_same w.key v.key rest.0 in
      (λ d. record { store = stores d; key = keys d }, ltb-true v.version w.version rest.1)

  over_from : (v w : WriteId) → key_of w ≡ key_of v → v.version < w.version → is_later v w ≡ true
  over_from v w key less =
      and_from (w.store == v.store) (bytes_eq w.key v.key && nat_lt v.version w.version) (eq-eqb w.store v.store (ap (λ (x : StoreKey). x.store) key))
      (and_from (bytes_eq w.key v.key) (nat_lt v.version w.version) (same_bytes w.key v.key (ap (λ (x : StoreKey). x.key) key)) (lt-ltb v.version w.version less))
    where
      same_bytes : (a b : List ℕ) → a ≡ b → bytes_eq a b ≡ true
      same_bytes a b same = subst (λ (x : List ℕ). bytes_eq a x ≡ true) same (itself a)
        where
          itself : (a : List ℕ) → bytes_eq a a ≡ true
          itself [] = refl
          itself (x ∷ xs) = and_from (x == x) (bytes_eq xs xs) (eq-eqb x x refl) (itself xs)

  module _ (q : StoreKey) (spoken : is_spoken e q ≡ true) (ascends : Ascend trace (places_before trace (length trace) q)) where
    abbrev its_places : List ℕ
    its_places = places_before trace (length trace) q

    abbrev its_test : ℕ → Bool
    its_test = is_missed trace set (version_shown e.reply q.key)

    -- a write that is not behind another is not above it
    not_above : (k n j : ℕ) → slice_get its_places k ≡ Some j → {i : ℕ} → slice_get its_places n ≡ Some i → k ≤ n → (w v : WriteId)
        → write_at trace j ≡ Some w
        → write_at trace i ≡ Some v → v.version < w.version → ⊥
    not_above k n j at_k {i} at_n most w v at_j at_i above =
        let low : version_at trace j ≡ w.version = version_of trace j w at_j in
        let high : version_at trace i ≡ v.version = version_of trace i v at_i in
        elim (cases_order k n) [
          | inl same ↦
              let one : Some j ≡ Some i = sym at_k ∙ ap (slice_get its_places) same ∙ at_n in
              let place : j ≡ i = cc in
              let versions : w.version ≡ v.version = sym low ∙ ap (version_at trace) place ∙ high in
              omega (arith, above, versions)
          | inr (inl before) ↦
              let less = earlier_lower trace its_places ascends k n j i at_k at_n before in
              omega (arith, above, subst (λ (x : ℕ). w.version < x) high (subst (λ (x : ℕ). x < version_at trace i) low less))
          | inr (inr behind) ↦ omega (arith, most, behind)
        ]

    -- what is found there it misses most
    most_from_newest : (i : ℕ) → newest_of its_test its_places ≡ Some i → MissesMost trace past r i × IsKeyWrite trace q i
    most_from_newest i found = (record { missed = missed_from_test q spoken i own.id own.at own.key newest.passes; most = bound }, own)
      where
        newest : IsNewest its_test its_places i
        newest = newest_is its_test its_places i found

        own : IsKeyWrite trace q i
        own = each_writes trace q i (at_place its_places newest.index i newest.at)
          where
            at_place : (xs : List ℕ) (k x : ℕ) → slice_get xs k ≡ Some x → Contains xs x
            at_place [] k x at = absurd (cc)
            at_place (y ∷ ys) zero x at = let same : y ≡ x = cc in (0, omega arith, same)
            at_place (y ∷ ys) (suc k) x at = in_later y ys x (at_place ys k x at)

        bound : (j : ℕ) → misses trace past r j ≡ true → is_over_at trace i j ≡ false
        bound j missed =
            false_from_ne_true (is_over_at trace i j) (λ over.
            let other = missed_write j missed in
            let w : WriteId = other.0 in
            let later = over_key own.id w (sym (over_is i j own.id w own.at other.1) ∙ over) in
            let key : key_of w ≡ q = later.0 ∙ own.key in
            let place =
            place_of its_places j (subst (λ (x : StoreKey). Contains (places_before trace (length trace) x) j) key (in_places trace j w other.1)) in
            let most = newest.last place.0 j place.1 (test_from_missed q spoken j w other.1 key missed) in
            not_above place.0 newest.index j place.1 newest.at most w own.id other.1 own.at later.1)

    -- and what it misses most is found there
    newest_from_most : (i : ℕ) (w : WriteId) → write_at trace i ≡ Some w → key_of w ≡ q → MissesMost trace past r i
        → newest_of its_test its_places ≡ Some i
    newest_from_most i w at key most = by_found (newest_of its_test its_places) refl
      where
        on : its_test i ≡ true
        on = test_from_missed q spoken i w at key most.missed

        place : (k : ℕ) × (slice_get its_places k ≡ Some i)
        place = place_of its_places i (subst (λ (x : StoreKey). Contains (places_before trace (length trace) x) i) key (in_places trace i w at))

        at_last : (j : ℕ) → newest_of its_test its_places ≡ Some j → i ≡ j
        at_last j found =
            let newest = newest_is its_test its_places j found in
            let its = most_from_newest j found in
            let own = its.1 in
            let least = newest.last place.0 i place.1 on in
            elim (cases_order place.0 newest.index) [
              | inl same ↦ let one : Some i ≡ Some j = sym place.1 ∙ ap (slice_get its_places) same ∙ newest.at in cc
              | inr (inl before) ↦
                  let less = earlier_lower trace its_places ascends place.0 newest.index i j place.1 newest.at before in
                  let versions : w.version < own.id.version =
                  subst (λ (x : ℕ). w.version < x) (version_of trace j own.id own.at)
                  (subst (λ (x : ℕ). x < version_at trace j) (version_of trace i w at) less) in
                  let over : is_over_at trace i j ≡ true =
                  over_is i j w own.id at own.at ∙ over_from w own.id (own.key ∙ sym key) versions in
                  let never = most.most j its.0.missed in
                  absurd (cc)
              | inr (inr behind) ↦ absurd (omega (arith, least, behind))
            ]

        by_found : (found : Option ℕ) → newest_of its_test its_places ≡ found → newest_of its_test its_places ≡ Some i
        by_found None none = absurd (none_from its_test its_places none place.0 i place.1 on)
        by_found (Some j) found = found ∙ ap Some (sym (at_last j found))

-- ---- all keys

module _ (app : App) (trace : List Entry) (legal : IsLegalTrace app trace) (m : tree.BTreeMap StoreKey (Vec ℕ)) (ordered : tree.IsOrdered key_cmp m)
    (index : IsIndexOf trace (length trace) m) where
  pub under_key : (q : StoreKey) (v : Vec ℕ) → tree.get key_cmp m q ≡ Some v → v.items ≡ places_before trace (length trace) q
  under_key q v found = sym (ap (λ (o : Option (Vec ℕ)). option_map_or (λ (v : Vec ℕ). v.items) o []) found) ∙ index q

  module _ (past : ℕ → ℕ → Bool) (set : List ℕ) (r : ℕ) (e : Entry) (at : slice_get trace r ≡ Some e)
      (told : (i : ℕ) → writes_at trace i ≡ true → past r i ≡ has set (number_at trace i)) where
    newest_under : (x : Keyed) (i : ℕ) → tree.get key_cmp m x.0 ≡ Some x.1 → missed_under trace set e x ≡ Some i
        → newest_of (is_missed trace set (version_shown e.reply x.0.key)) (places_before trace (length trace) x.0) ≡ Some i
    newest_under x i there found = sym (ap (newest_of (is_missed trace set (version_shown e.reply x.0.key))) (under_key x.0 x.1 there)) ∙ found

    most_under : (x : Keyed) (i : ℕ) → tree.get key_cmp m x.0 ≡ Some x.1 → is_spoken e x.0 ≡ true → missed_under trace set e x ≡ Some i
        → MissesMost trace past r i × IsKeyWrite trace x.0 i
    most_under x i there spoken found =
        most_from_newest trace past set r e at told x.0 spoken (ascend app trace legal x.0) i (newest_under x i there found)

    -- of two keys the lower one's write comes first
    lower_key : (x y : Keyed) (i j : ℕ) → Lower x y → is_spoken e x.0 ≡ true → is_spoken e y.0 ≡ true → IsKeyWrite trace x.0 i
        → IsKeyWrite trace y.0 j
        → HasLowerKey trace i j
    lower_key x y i j lower spoken_x spoken_y one other v w at_i at_j =
        let stores_x = eqb-true x.0.store e.object (and_parts (x.0.store == e.object) (speaks_of x.0.key e.call) spoken_x).0 in
        let stores_y = eqb-true y.0.store e.object (and_parts (y.0.store == e.object) (speaks_of y.0.key e.call) spoken_y).0 in
        let tie : nat_cmp x.0.store y.0.store ≡ Equal = ap (nat_cmp x.0.store) (stores_y ∙ sym stores_x) ∙ tied_itself nat_cmp_total x.0.store in
        let keys : slice_cmp nat_cmp x.0.key y.0.key ≡ Less = sym (ap (λ (o : Ordering). ordering_then o (slice_cmp nat_cmp x.0.key y.0.key)) tie) ∙ lower in
        let same_v : Some one.id ≡ Some v = sym one.at ∙ at_i in
        let same_w : Some other.id ≡ Some w = sym other.at ∙ at_j in
        let is_v : one.id ≡ v = cc in
        let is_w : other.id ≡ w = cc in
        let key_v : x.0.key ≡ v.key = ap (λ (k : StoreKey). k.key) (sym one.key) ∙ ap (λ (u : WriteId). u.key) is_v in
        let key_w : y.0.key ≡ w.key = ap (λ (k : StoreKey). k.key) (sym other.key) ∙ ap (λ (u : WriteId). u.key) is_w in
        subst (λ (k : List ℕ). slice_cmp nat_cmp v.key k ≡ Less) key_w (subst (λ (k : List ℕ). slice_cmp nat_cmp k y.0.key ≡ Less) key_v keys)

    ascending : (xs : List Keyed) → AllPairs Lower xs → ((x : Keyed) → Contains xs x → tree.get key_cmp m x.0 ≡ Some x.1)
        → AllPairs (HasLowerKey trace) (missed_from trace set e xs)
    ascending [] lower there = λ i j d less low. absurd (omega arith)
    ascending (x ∷ xs) lower there =
        by_test (is_spoken e x.0) refl (missed_under trace set e x) refl (ascending xs (tails_lower x xs lower) (λ y among. there y (in_later x xs y among)))
      where
        behind : is_spoken e x.0 ≡ true → (i : ℕ) → missed_under trace set e x ≡ Some i
            → All (HasLowerKey trace i) (missed_from trace set e xs)
        behind spoken i found k d low =
            let j : ℕ = get_or (missed_from trace set e xs) k d in
            let f = found_under trace set e xs j (Contains-get_or (missed_from trace set e xs) k d low) in
            lower_key x f.under i j (All-contains (Lower x) xs f.under (heads_lower x xs lower) f.among) spoken f.spoken
            (most_under x i (there x (0, omega arith, refl)) spoken found).1
            (most_under f.under j (there f.under (in_later x xs f.under f.among)) f.spoken f.found).1

        by_test : (t : Bool) → is_spoken e x.0 ≡ t → (o : Option ℕ) → missed_under trace set e x ≡ o
            → AllPairs (HasLowerKey trace) (missed_from trace set e xs)
            → AllPairs (HasLowerKey trace) (cond t (option_to_list o ++ missed_from trace set e xs) [])
        by_test false is o found rest = λ i j d less low. absurd (omega arith)
        by_test true is None found rest = rest
        by_test true is (Some i) found rest = AllPairs-cons (HasLowerKey trace) i (missed_from trace set e xs) (behind is i found) rest

    module _ (first : StoreKey) (from : key_from e.object e.call ≡ Some first) where
      abbrev entries : List Keyed
      entries = entries_between key_cmp (Included first) Unbounded m.entries

      abbrev is_behind : Keyed → Bool
      is_behind x = is_le (key_cmp first x.0) && true

      all_lower : AllPairs Lower m.entries
      all_lower i j d less low =
          let count : length (tree.keys m) ≡ length m.entries = length-map m.entries (λ (x : Keyed). x.0) in
          let one = get_or-map (λ (x : Keyed). x.0) m.entries i d d.0 (omega (arith, less, low)) in
          let other = get_or-map (λ (x : Keyed). x.0) m.entries j d d.0 low in
          subst (λ (k : StoreKey). key_cmp k (get_or m.entries j d).0 ≡ Less) one
          (subst (λ (k : StoreKey). key_cmp (get_or (tree.keys m) i d.0) k ≡ Less) other
          (Less-from_sorted key_cmp (tree.keys m) i j d.0 ordered less (omega (arith, count, low))))

      entries_there : (x : Keyed) → Contains entries x → tree.get key_cmp m x.0 ≡ Some x.1
      entries_there x among =
          All-contains (λ (x : Keyed). tree.get key_cmp m x.0 ≡ Some x.1) m.entries x (All-found key_total m ordered)
          ((filter_contains is_behind m.entries x).0 among).0

      entries_behind : All (λ x. is_le (key_cmp first x.0) ≡ true) entries
      entries_behind =
          All-weaker (λ x. is_behind x ≡ true) (λ x. is_le (key_cmp first x.0) ≡ true) (λ x is. (and_parts (is_le (key_cmp first x.0)) true is).0)
          entries (filter_passes is_behind m.entries)

      entries_lower : AllPairs Lower entries
      entries_lower = AllPairs-filter Lower is_behind m.entries all_lower

      -- each write that it misses most is found
      all_found : (i : ℕ) → MissesMost trace past r i → Contains (missed_from trace set e entries) i
      all_found i most = by_get (tree.get key_cmp m q) refl
        where
          write : (w : WriteId) × (write_at trace i ≡ Some w)
          write = missed_write trace past set r e at told i most.missed

          q : StoreKey
          q = key_of write.0

          spoken : is_spoken e (key_of write.0) ≡ true
          spoken = missed_spoken trace past set r e at told i write.0 write.1 most.missed

          by_get : (found : Option (Vec ℕ)) → tree.get key_cmp m (key_of write.0) ≡ found → Contains (missed_from trace set e entries) i
          by_get None none =
              let empty : [] ≡ places_before trace (length trace) (key_of write.0) =
              sym (ap (λ (o : Option (Vec ℕ)). option_map_or (λ (v : Vec ℕ). v.items) o []) none) ∙ index (key_of write.0) in
              let never = subst (λ (xs : List ℕ). Contains xs i) (sym empty) (in_places trace i write.0 write.1) in
              absurd (omega (arith, never.1))
          by_get (Some v) found =
              let x : Keyed = (key_of write.0, v) in
              let newest = newest_from_most trace past set r e at told (key_of write.0) spoken (ascend app trace legal (key_of write.0)) i write.0 write.1 refl most in
              let there : Contains m.entries x = Contains-from_lookup same_key_is (key_of write.0) v m.entries found in
              let passes : is_behind x ≡ true = and_from (is_le (key_cmp first x.0)) true (spoken_first e first from (key_of write.0) spoken) refl in
              found_all trace set e first from entries entries_lower entries_behind i
              (record {
                under = x;
                among = (filter_contains is_behind m.entries x).1 (there, passes);
                spoken = spoken;
                found = ap (newest_of (is_missed trace set (version_shown e.reply x.0.key))) (under_key x.0 v found) ∙ newest;
              })

      pub are_missed : AreMissedAt trace past r (missed_from trace set e entries)
      are_missed = record {
        ascending = ascending entries entries_lower entries_there;
        just = λ i. (
          λ among. let f = found_under trace set e entries i among in (most_under f.under i (entries_there f.under f.among) f.spoken f.found).0,
          λ most. all_found i most,
        );
      }
