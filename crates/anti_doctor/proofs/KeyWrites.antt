-- The writes to a key in a legal trace: they are kept in its order, in which their versions ascend.
use Rattle.std.proofs.Common.{◌≡◌, ℕ, ◌+◌, ◌<◌, ◌≤◌, true, false, List, length, get_or, take, refl, sym, ap, ◌∙◌, subst, arith}
use Rattle.std.specs.Prelude.{All, AllPairs, Contains, Option, None, Some, slice_get}
use Rattle.std.specs.List.{range_with_len}
use Rattle.std.specs.Option.{option_and_then, option_map_or}
use Rattle.std.proofs.lemmas.List.{get_or-take, length-take-le}
use Rattle.std.proofs.lemmas.List.Elements.{Contains-get_or}
use Rattle.std.proofs.lemmas.List.FromFn.{get_or-range_with_len, length-range_with_len}
use Rattle.std.proofs.lemmas.List.Kept.{AllPairs-filter}
use Rattle.std.proofs.lemmas.Option.{get_or_from_slice_get, slice_get_within}
use Rattle.anti_ids.specs.declared.id.WriteId.{WriteId}
use Rattle.anti_kind.specs.declared.entry.Entry.{Entry}
use Rattle.anti_kind.proofs.Finding.{filter_contains}
use Rattle.anti_app.specs.declared.app.App.{App}
use Rattle.anti_trace.specs.Legal.{IsLegalTrace}
use Rattle.law_causal.specs.Reads.{is_at}
use Rattle.law_causal.specs.Words.{wrote}
use Rattle.law_serial.specs.Order.{writes_at}
use Rattle.law_serial.proofs.Pasts.{there_writes}
use Rattle.anti_order.proofs.Versions.{rows_before, rows_behind, version_is}
use Rattle.anti_doctor.specs.declared.write_index.StoreKey.{StoreKey}
use Rattle.anti_doctor.specs.Missed.{first_of, write_at}
use Rattle.anti_doctor.specs.inner.Indexes.{key_of, places_before, same_key, writes_to}
use Rattle.anti_doctor.specs.inner.Missing.{Ascend, version_at}
use Rattle.anti_doctor.proofs.KeyOrder.{same_key_is, same_key_itself}
use Rattle.anti_doctor.proofs.Newest.{has_first}

-- the write at a place
pub record IsWriteOf (trace : List Entry) (i : ℕ) (w : WriteId) : Type 0 where
  pub entry : Entry
  pub there : slice_get trace i ≡ Some entry
  pub first : first_of (wrote entry) ≡ Some w

pub write_of : (trace : List Entry) (i : ℕ) (w : WriteId) → write_at trace i ≡ Some w → IsWriteOf trace i w
write_of trace i w at = by_found (slice_get trace i) refl at
  where
    by_found : (found : Option Entry) → slice_get trace i ≡ found → option_and_then (λ e. first_of (wrote e)) found ≡ Some w
        → IsWriteOf trace i w
    by_found None there is = absurd (cc)
    by_found (Some e) there is = record { entry = e; there = there; first = is }

pub write_is : (trace : List Entry) (i : ℕ) (w : WriteId) → IsWriteOf trace i w → write_at trace i ≡ Some w
write_is trace i w it = ap (λ found. option_and_then (λ e. first_of (wrote e)) found) it.there ∙ it.first

pub version_of : (trace : List Entry) (i : ℕ) (w : WriteId) → write_at trace i ≡ Some w → version_at trace i ≡ w.version
version_of trace i w at = ap (λ (found : Option WriteId). option_map_or (λ w. w.version) found 0) at

pub writes_of : (trace : List Entry) (i : ℕ) (w : WriteId) → write_at trace i ≡ Some w → writes_at trace i ≡ true
writes_of trace i w at = let it = write_of trace i w at in there_writes trace i it.entry w it.there (has_first w (wrote it.entry) it.first)

-- a write to a key
pub record IsKeyWrite (trace : List Entry) (q : StoreKey) (i : ℕ) : Type 0 where
  pub id : WriteId
  pub at : write_at trace i ≡ Some id
  pub key : key_of id ≡ q

pub key_write : (trace : List Entry) (q : StoreKey) (i : ℕ) → is_at (writes_to q) trace i ≡ true → IsKeyWrite trace q i
key_write trace q i is = by_entry (slice_get trace i) refl is
  where
    by_id : (e : Entry) → slice_get trace i ≡ Some e → (found : Option WriteId) → first_of (wrote e) ≡ found
        → option_map_or (λ w. same_key (key_of w) q) found false ≡ true → IsKeyWrite trace q i
    by_id e there None none is = absurd (cc)
    by_id e there (Some w) first is =
        record { id = w; at = write_is trace i w (record { entry = e; there = there; first = first }); key = same_key_is (key_of w) q is }

    by_entry : (found : Option Entry) → slice_get trace i ≡ found → option_map_or (writes_to q) found false ≡ true → IsKeyWrite trace q i
    by_entry None there is = absurd (cc)
    by_entry (Some e) there is = by_id e there (first_of (wrote e)) refl is

is_key_write : (trace : List Entry) (i : ℕ) (w : WriteId) → IsWriteOf trace i w → is_at (writes_to (key_of w)) trace i ≡ true
is_key_write trace i w it =
    ap (λ found. option_map_or (writes_to (key_of w)) found false) it.there
    ∙ ap (λ (found : Option WriteId). option_map_or (λ v. same_key (key_of v) (key_of w)) found false) it.first
    ∙ same_key_itself (key_of w)

-- ---- the places of the writes to a key

range_ascends : (n : ℕ) → AllPairs (λ x y. x < y) (range_with_len 0 n)
range_ascends n i j d less low =
    let count : length (range_with_len 0 n) ≡ n = length-range_with_len 0 n in
    let first : get_or (range_with_len 0 n) i d ≡ 0 + i = get_or-range_with_len 0 n i d (omega arith) in
    let second : get_or (range_with_len 0 n) j d ≡ 0 + j = get_or-range_with_len 0 n j d (omega arith) in
    let is : get_or (range_with_len 0 n) i d < get_or (range_with_len 0 n) j d = omega arith in
    is

module _ (trace : List Entry) (q : StoreKey) where
  abbrev places_of : List ℕ
  places_of = places_before trace (length trace) q

  pub each_writes : (i : ℕ) → Contains (places_before trace (length trace) q) i → IsKeyWrite trace q i
  each_writes i among = key_write trace q i ((filter_contains (is_at (writes_to q) trace) (range_with_len 0 (length trace)) i).0 among).1

  pub each_low : All (λ i. i < length trace) (places_before trace (length trace) q)
  each_low k d low =
      let among = ((filter_contains (is_at (writes_to q) trace) (range_with_len 0 (length trace)) (get_or places_of k d)).0 (Contains-get_or places_of k d low)).0 in
      let count : length (range_with_len 0 (length trace)) ≡ length trace = length-range_with_len 0 (length trace) in
      let its : get_or (range_with_len 0 (length trace)) among.0 (get_or places_of k d) ≡ 0 + among.0 =
      get_or-range_with_len 0 (length trace) among.0 (get_or places_of k d) (omega (arith, among.1)) in
      let same = among.2 in
      let within : get_or places_of k d < length trace = omega (arith, among.1, same) in
      within

pub in_places : (trace : List Entry) (i : ℕ) (w : WriteId) → write_at trace i ≡ Some w
    → Contains (places_before trace (length trace) (key_of w)) i
in_places trace i w at =
    let it = write_of trace i w at in
    let low : i < length trace = slice_get_within trace i it.entry it.there in
    let count : length (range_with_len 0 (length trace)) ≡ length trace = length-range_with_len 0 (length trace) in
    let its : get_or (range_with_len 0 (length trace)) i i ≡ 0 + i = get_or-range_with_len 0 (length trace) i i low in
    (filter_contains (is_at (writes_to (key_of w)) trace) (range_with_len 0 (length trace)) i).1
    ((i, omega arith, omega arith), is_key_write trace i w it)

-- ---- their versions

less_by : (a b c d : ℕ) → a ≡ c → b ≡ d → c < d → a < b
less_by a b c d first second less = omega arith

module _ (app : App) (trace : List Entry) (legal : IsLegalTrace app trace) where
  -- an earlier write of a store has a lower version
  versions_grow : (i j : ℕ) (v w : WriteId) → i < j → write_at trace i ≡ Some v → write_at trace j ≡ Some w → v.store ≡ w.store
      → v.version < w.version
  versions_grow i j v w before at_i at_j stores =
      let a = write_of trace i v at_i in
      let b = write_of trace j w at_j in
      let first : v.version ≤ rows_before trace v.store j =
      rows_behind app trace legal i a.entry a.there v (has_first v (wrote a.entry) a.first) j before in
      let second : w.version ≡ rows_before trace w.store j + 1 = version_is app trace legal j b.entry b.there w (has_first w (wrote b.entry) b.first) in
      let same : rows_before trace v.store j ≡ rows_before trace w.store j = ap (λ (o : ℕ). rows_before trace o j) stores in
      omega (arith, first, second, same)

  pub ascend : (q : StoreKey) → Ascend trace (places_before trace (length trace) q)
  ascend q n p at k d low =
      let places : List ℕ = places_before trace (length trace) q in
      let i : ℕ = get_or (take n places) k d in
      let far : n < length places = slice_get_within places n p at in
      let count : length (take n places) ≡ n = length-take-le n places (omega (arith, far)) in
      let near : k < n = omega (arith, low, count) in
      let is : i ≡ get_or places k d = get_or-take n places k d near in
      let last : get_or places n d ≡ p = get_or_from_slice_get places n p d at in
      let pairs : get_or places k d < get_or places n d =
      AllPairs-filter (λ x y. x < y) (is_at (writes_to q) trace) (range_with_len 0 (length trace)) (range_ascends (length trace)) k n d near far in
      let before : i < p = omega arith in
      let one = each_writes trace q i (subst (Contains places) (sym is) (Contains-get_or places k d (omega arith))) in
      let other = each_writes trace q p (subst (Contains places) last (Contains-get_or places n d far)) in
      let grows : one.id.version < other.id.version =
      versions_grow i p one.id other.id before one.at other.at (ap (λ (x : StoreKey). x.store) (one.key ∙ sym other.key)) in
      let version_i : version_at trace i ≡ one.id.version = version_of trace i one.id one.at in
      let version_p : version_at trace p ≡ other.id.version = version_of trace p other.id other.at in
      less_by (version_at trace i) (version_at trace p) one.id.version other.id.version version_i version_p grows

-- of two places of such a list the earlier one has the lower version
pub earlier_lower : (trace : List Entry) (places : List ℕ) → Ascend trace places → (k n i p : ℕ) → slice_get places k ≡ Some i
    → slice_get places n ≡ Some p
    → k < n → version_at trace i < version_at trace p
earlier_lower trace places ascends k n i p at_k at_n before =
    let far : n < length places = slice_get_within places n p at_n in
    let count : length (take n places) ≡ n = length-take-le n places (omega (arith, far)) in
    subst (λ (x : ℕ). version_at trace x < version_at trace p) (get_or-take n places k i before ∙ get_or_from_slice_get places k i i at_k)
    (ascends n p at_n k i (omega (arith, before, count)))
