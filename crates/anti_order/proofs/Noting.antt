-- The writes of a trace, as they are noted entry by entry.
use Rattle.std.proofs.Common.{◌≡◌, ℕ, zero, suc, ◌+◌, ◌-◌, ◌^◌, ◌<◌, ◌≤◌, ◌++◌, Bool, true, false, cond, List, [], ◌∷◌, length, length-append, get_or, map, refl, sym, ap, ap₂, ◌∙◌, subst, inl, inr, arith}
use Rattle.std.specs.Prelude.{◌==◌, ◌&&◌, Option, None, Some, bytes_eq, nat_lt, option_map, slice_get}
use Rattle.std.specs.List.{filter, range_with_len}
use Rattle.std.proofs.lemmas.Bool.{and_parts, cases_lt, eqb-true, lt-ltb, ltb-true, ne_eqb, or_left}
use Rattle.std.proofs.lemmas.List.{length-map, map-append}
use Rattle.std.proofs.lemmas.Option.{cond_some, none-some, same_Some, slice_get-get_or}
use Rattle.std.proofs.lemmas.Slice.Eq.{bytes_eq-Decides}
use Rattle.anti_ids.specs.Ids.{has_id, is_id}
use Rattle.anti_ids.specs.declared.id.WriteId.{WriteId}
use Rattle.anti_ids.proofs.IdLemmas.{is_id-itself}
use Rattle.anti_kind.specs.declared.entry.Entry.{Entry}
use Rattle.anti_app.specs.declared.app.App.{App}
use Rattle.anti_app.specs.Objects.{object_count}
use Rattle.anti_trace.specs.declared.mark.Mark.{Mark}
use Rattle.anti_trace.specs.Legal.{IsLegalTrace}
use Rattle.anti_past.specs.Losses.{mark_of}
use Rattle.law_causal.specs.Reads.{is_at}
use Rattle.law_causal.specs.Words.{wrote}
use Rattle.law_serial.specs.Order.{is_some_id, writes_at}
use Rattle.anti_order.specs.Answers.{AreMarksOf, mark_at}
use Rattle.anti_order.specs.declared.writes.Gathered.{Gathered}
use Rattle.anti_order.specs.declared.writes.KeyAndNumber.{KeyAndNumber}
use Rattle.anti_order.specs.declared.writes.Writes.{Writes}
use Rattle.anti_order.specs.inner.Writes.{AddsWrite, AreWritesOf, IsWriteAt, number_among, number_at, number_under, rows_for, rows_on, write_places}
use Rattle.anti_order.proofs.Numbers.{few}
use Rattle.anti_order.proofs.Places.{at_place, is_at_entry, is_at_within, places_more}
use Rattle.anti_order.proofs.Versions.{one_id, one_place, on_object, own_store, rows_before, rows_behind, rows_more, same_written, version_is}

-- whether an entry wrote an id
abbrev has_written : WriteId → Entry → Bool
has_written w a = has_id w (wrote a)

-- the id of a write on a store, behind so many others there
abbrev id_behind : ℕ → ℕ → KeyAndNumber → WriteId
id_behind s v row = record { store = s; key = row.key; version = v + 1 }

id_is : (w : WriteId) (s : ℕ) (key : List ℕ) (version : ℕ) → w.store ≡ s → w.key ≡ key → w.version ≡ version
    → w ≡ record { store = s; key = key; version = version }
id_is w s key version store keys versions = λ i. record { store = store i; key = keys i; version = versions i }

-- ---- lists

slice_get-front : (xs ys : List KeyAndNumber) (n : ℕ) → n < length xs → slice_get (xs ++ ys) n ≡ slice_get xs n
slice_get-front [] ys n low = absurd (omega (arith, low))
slice_get-front (x ∷ xs) ys zero low = refl
slice_get-front (x ∷ xs) ys (suc n) low = slice_get-front xs ys n (omega (arith, low))

slice_get-behind : (xs ys : List KeyAndNumber) (n : ℕ) → length xs ≤ n → slice_get (xs ++ ys) n ≡ slice_get ys (n - length xs)
slice_get-behind [] ys n high = let same : n ≡ n - 0 = omega arith in ap (slice_get ys) same
slice_get-behind (x ∷ xs) ys zero high = absurd (omega (arith, high))
slice_get-behind (x ∷ xs) ys (suc n) high =
    let same : n - length xs ≡ suc n - length (x ∷ xs) = omega arith in
    slice_get-behind xs ys n (omega (arith, high)) ∙ ap (slice_get ys) same

first_only : (x y : KeyAndNumber) (n : ℕ) → slice_get (x ∷ []) n ≡ Some y → (n ≡ 0) × (x ≡ y)
first_only x y zero at = (refl, same_Some x y at)
first_only x y (suc n) at = absurd (cc)

-- ---- the number of an id among the writes on its store

module _ (rows : List KeyAndNumber) (w : WriteId) where
  -- what is known where a number is found
  record IsFound (n : ℕ) : Type 0 where
    row : KeyAndNumber
    some : 0 < w.version
    there : slice_get rows (w.version - 1) ≡ Some row
    key : w.key ≡ row.key
    number : row.number ≡ n

  found_among : (n : ℕ) → number_among rows w ≡ Some n → IsFound n
  found_among n found = by_version (w.version == 0) refl found
    where
      by_row : (w.version == 0) ≡ false → (row : Option KeyAndNumber) → slice_get rows (w.version - 1) ≡ row → number_under w.key row ≡ Some n → IsFound n
      by_row some None at found = absurd (cc)
      by_row some (Some row) at found =
          let (same, number) = cond_some (bytes_eq row.key w.key) row.number n found in
          record {
            row = row;
            some = above_0 w.version some;
            there = at;
            key = sym ((bytes_eq-Decides row.key w.key).0 same);
            number = number;
          }
        where
          above_0 : (v : ℕ) → (v == 0) ≡ false → 0 < v
          above_0 zero is = absurd (cc)
          above_0 (suc v) is = omega arith

      by_version : (t : Bool) → (w.version == 0) ≡ t → cond t None (number_under w.key (slice_get rows (w.version - 1))) ≡ Some n → IsFound n
      by_version true none found = absurd (cc)
      by_version false some found = by_row some (slice_get rows (w.version - 1)) refl found

  known_among : (row : KeyAndNumber) → 0 < w.version → slice_get rows (w.version - 1) ≡ Some row → row.key ≡ w.key → number_among rows w ≡ Some row.number
  known_among row some there key =
      ap (λ (t : Bool). cond t None (number_under w.key (slice_get rows (w.version - 1)))) (ne_eqb w.version 0 (λ e. absurd (omega (arith, some, e))))
      ∙ ap (number_under w.key) there
      ∙ ap (λ (t : Bool). cond t (Some row.number) None) ((bytes_eq-Decides row.key w.key).1 key)

-- ---- what is noted

-- The writes before place k are noted: the marks of all, and those of each store one behind another.
pub record AreNoted (app : App) (trace : List Entry) (k : ℕ) (noted : Gathered) : Type 0 where
  pub marks : AreMarksOf trace (filter (writes_at trace) (range_with_len 0 k)) noted.marks.items
  pub stores : length noted.stores.items ≡ object_count app
  pub counts : (s : ℕ) → s < object_count app → length (rows_on noted.stores.items s) ≡ rows_before trace s k
  pub rows : (s v : ℕ) (row : KeyAndNumber) → slice_get (rows_on noted.stores.items s) v ≡ Some row
      → (i : ℕ) × IsWriteAt (id_behind s v row) trace i × (number_at trace i ≡ row.number)

-- ---- one entry more

module _ (app : App) (trace : List Entry) (legal : IsLegalTrace app trace) (k : ℕ) (e : Entry) (at : slice_get trace k ≡ Some e) (old new : Gathered)
    (adds : AddsWrite e old new) (noted : AreNoted app trace k old) where
  -- as many are noted as stand before the entry
  counted : length old.marks.items ≡ number_at trace k
  counted =
      sym (length-map old.marks.items (λ (m : Mark). Some m))
      ∙ ap length (sym noted.marks)
      ∙ length-map (filter (writes_at trace) (range_with_len 0 k)) (mark_at trace)

  -- the marks, by whether the entry is a write
  marks_by : (t : Bool) → is_some_id (wrote e) ≡ t → AreMarksOf trace (filter (writes_at trace) (range_with_len 0 (k + 1))) new.marks.items
  marks_by t is =
      let places = filter (writes_at trace) (range_with_len 0 k) in
      ap (map (mark_at trace))
      (places_more (writes_at trace) k
      ∙ ap (λ (b : Bool). places ++ cond b (k ∷ []) []) (is_at_entry (λ a. is_some_id (wrote a)) trace k e at ∙ is))
      ∙ map-append (mark_at trace) places (cond t (k ∷ []) [])
      ∙ ap₂ (λ (ms ns : List (Option Mark)). ms ++ ns) noted.marks (its t)
      ∙ sym (map-append Some old.marks.items (cond t (mark_of e ∷ []) []))
      ∙ sym (ap (map Some) (adds.marks ∙ ap (λ (b : Bool). old.marks.items ++ cond b (mark_of e ∷ []) []) is))
    where
      its : (t : Bool) → map (mark_at trace) (cond t (k ∷ []) []) ≡ map Some (cond t (mark_of e ∷ []) [])
      its true = ap (λ (found : Option Entry). option_map mark_of found ∷ []) at
      its false = refl

  -- whether the entry is on a store, and the store is one
  abbrev is_here : ℕ → Bool
  is_here s = (e.object == s) && nat_lt s (length old.stores.items)

  abbrev added : List KeyAndNumber
  added = rows_for (length old.marks.items) (wrote e)

  counts_more : (s : ℕ) → s < object_count app → length (rows_on new.stores.items s) ≡ rows_before trace s (k + 1)
  counts_more s low =
      let stores = noted.stores in
      ap length (adds.rows s)
      ∙ length-append (rows_on old.stores.items s) (cond (is_here s) added [])
      ∙ ap₂ (λ (m n : ℕ). m + n) (noted.counts s low)
      (ap (λ (t : Bool). length (cond ((e.object == s) && t) added [])) (lt-ltb s (length old.stores.items) (omega (arith, low, stores))) ∙ by_test (e.object == s))
      ∙ sym (rows_more app trace legal k e at s)
    where
      by_test : (t : Bool) → length (cond (t && true) added []) ≡ length (cond t (wrote e) [])
      by_test true = length-map (wrote e) (λ w. record { key = w.key; number = length old.marks.items })
      by_test false = refl

  -- the write that was added on a store
  module _ (s v : ℕ) (row : KeyAndNumber) (here : is_here s ≡ true) (w : WriteId) (one : wrote e ≡ w ∷ [])
      (behind : v ≡ length (rows_on old.stores.items s)) (is : record { key = w.key; number = length old.marks.items } ≡ row) where
    own_id : w ≡ id_behind s v row
    own_id =
        let both = and_parts (e.object == s) (nat_lt s (length old.stores.items)) here in
        let stores = noted.stores in
        let low = ltb-true s (length old.stores.items) both.1 in
        let count = noted.counts s (omega (arith, low, stores)) in
        let has : has_id w (wrote e) ≡ true = ap (has_id w) one ∙ or_left (is_id w w) false (is_id-itself w) in
        let own : w.store ≡ s = sym (own_store app trace legal k e at w has) ∙ eqb-true e.object s both.0 in
        let version = version_is app trace legal k e at w has ∙ ap (λ (o : ℕ). rows_before trace o k + 1) own in
        id_is w s row.key (v + 1) own (ap (λ (r : KeyAndNumber). r.key) is) (omega (arith, version, count, behind))

    row_added : (i : ℕ) × IsWriteAt (id_behind s v row) trace i × (number_at trace i ≡ row.number)
    row_added =
        let has : has_id (id_behind s v row) (wrote e) ≡ true =
        ap₂ (λ (x : WriteId) (ids : List WriteId). has_id x ids) (sym own_id) one ∙ or_left (is_id w w) false (is_id-itself w) in
        (k, is_at_entry (has_written (id_behind s v row)) trace k e at ∙ has, sym counted ∙ ap (λ (r : KeyAndNumber). r.number) is)

  rows_noted : (s v : ℕ) (row : KeyAndNumber) → slice_get (rows_on new.stores.items s) v ≡ Some row
      → (i : ℕ) × IsWriteAt (id_behind s v row) trace i × (number_at trace i ≡ row.number)
  rows_noted s v row there =
      let both : slice_get (rows_on old.stores.items s ++ cond (is_here s) added []) v ≡ Some row =
      ap (λ (rs : List KeyAndNumber). slice_get rs v) (sym (adds.rows s)) ∙ there in
      elim (cases_lt v (length (rows_on old.stores.items s))) [
        | inl low ↦ noted.rows s v row (sym (slice_get-front (rows_on old.stores.items s) (cond (is_here s) added []) v low) ∙ both)
        | inr high ↦
            by_test (is_here s) refl high (sym (slice_get-behind (rows_on old.stores.items s) (cond (is_here s) added []) v high) ∙ both)
      ]
    where
      by_ids : is_here s ≡ true → length (rows_on old.stores.items s) ≤ v → slice_get added (v - length (rows_on old.stores.items s)) ≡ Some row
          → (i : ℕ) × IsWriteAt (id_behind s v row) trace i × (number_at trace i ≡ row.number)
      by_ids here high last =
          elim (one_id e.object e.call e.reply) [
            | inl none ↦
                absurd (none-some row (ap (λ (ids : List WriteId). slice_get (rows_for (length old.marks.items) ids) (v - length (rows_on old.stores.items s))) (sym none) ∙ last))
            | inr (w, one) ↦
                let (first, is) = first_only (record { key = w.key; number = length old.marks.items }) row (v - length (rows_on old.stores.items s))
                (ap (λ (ids : List WriteId). slice_get (rows_for (length old.marks.items) ids) (v - length (rows_on old.stores.items s))) (sym one) ∙ last) in
                row_added s v row here w one (omega (arith, high, first)) is
          ]

      by_test : (t : Bool) → is_here s ≡ t → length (rows_on old.stores.items s) ≤ v
          → slice_get (cond t added []) (v - length (rows_on old.stores.items s)) ≡ Some row
          → (i : ℕ) × IsWriteAt (id_behind s v row) trace i × (number_at trace i ≡ row.number)
      by_test true here high last = by_ids here high last
      by_test false here high last = absurd (cc)

  pub noted_more : AreNoted app trace (k + 1) new
  noted_more = record {
    marks = marks_by (is_some_id (wrote e)) refl;
    stores = adds.count ∙ noted.stores;
    counts = counts_more;
    rows = rows_noted;
  }

-- ---- all entries

module _ (app : App) (trace : List Entry) (legal : IsLegalTrace app trace) (k : ℕ) (all : k ≡ length trace) (noted : Gathered)
    (are : AreNoted app trace k noted) where
  found_in : (w : WriteId) (n : ℕ) → number_among (rows_on noted.stores.items w.store) w ≡ Some n
      → (i : ℕ) × IsWriteAt w trace i × (number_at trace i ≡ n)
  found_in w n found =
      let its = found_among (rows_on noted.stores.items w.store) w n found in
      let some = its.some in
      let (i, is, number) = are.rows w.store (w.version - 1) its.row its.there in
      let same : w ≡ id_behind w.store (w.version - 1) its.row = id_is w w.store its.row.key (w.version - 1 + 1) refl its.key (omega (arith, some)) in
      (i, subst (λ (x : WriteId). IsWriteAt x trace i) (sym same) is, number ∙ its.number)

  known_in : (w : WriteId) (i : ℕ) → IsWriteAt w trace i → number_among (rows_on noted.stores.items w.store) w ≡ Some (number_at trace i)
  known_in w i is =
      let rows : List KeyAndNumber = rows_on noted.stores.items w.store in
      let (a, at, has) = at_place (has_written w) trace i is in
      let version = version_is app trace legal i a at w has in
      let count = are.counts w.store (on_object app trace legal i a at w has) in
      let low = is_at_within (has_written w) trace i is in
      let behind = rows_behind app trace legal i a at w has k (omega (arith, low, all)) in
      let none : KeyAndNumber = record { key = []; number = 0 } in
      let row : KeyAndNumber = get_or rows (w.version - 1) none in
      let there : slice_get rows (w.version - 1) ≡ Some row = slice_get-get_or rows (w.version - 1) none (omega (arith, version, count, behind)) in
      let v : WriteId = id_behind w.store (w.version - 1) row in
      let (j, at_j, number) = are.rows w.store (w.version - 1) row there in
      let (b, here, wrote_it) = at_place (has_written v) trace j at_j in
      let same : i ≡ j = one_place app trace legal i j a b w v at here has wrote_it refl (omega (arith, version)) in
      let entry : b ≡ a = same_Some b a (sym here ∙ ap (slice_get trace) (sym same) ∙ at) in
      let one : v ≡ w =
      same_written a.object a.call a.reply v w (ap (λ (x : Entry). has_id v (wrote x)) (sym entry) ∙ wrote_it) has in
      known_among rows w row (omega (arith, version)) there (ap (λ (x : WriteId). x.key) one)
      ∙ ap Some (sym number ∙ ap (number_at trace) (sym same))

  marks_are : (writes : Writes) → writes.marks.items ≡ noted.marks.items → AreMarksOf trace (write_places trace) writes.marks.items
  marks_are writes marks =
      ap (λ (n : ℕ). map (mark_at trace) (filter (writes_at trace) (range_with_len 0 n))) (sym all)
      ∙ are.marks
      ∙ ap (map Some) (sym marks)

  pub all_noted : length trace < 2 ^ 32 → (writes : Writes) → writes.marks.items ≡ noted.marks.items → writes.stores.items ≡ noted.stores.items
      → AreWritesOf trace writes
  all_noted short writes marks stores = record {
    marks = marks_are writes marks;
    few = let short_of = few trace writes.marks.items (marks_are writes marks) in omega (arith, short_of, short);
    found = λ w n found. found_in w n (ap (λ ss. number_among (rows_on ss w.store) w) (sym stores) ∙ found);
    known = λ w i is. ap (λ ss. number_among (rows_on ss w.store) w) stores ∙ known_in w i is;
  }
