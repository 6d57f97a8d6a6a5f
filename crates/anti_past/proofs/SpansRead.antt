-- The reads that are noted under their spans are the reads of these spans.
use Rattle.std.proofs.Common.{◌≡◌, ℕ, ◌+◌, ◌<◌, ◌||◌, ◌++◌, Bool, true, false, cond, List, [], ◌∷◌, map, length, get_or, refl, sym, ap, ◌∙◌, subst, arith}
use Rattle.std.specs.Prelude.{AllPairs, Contains, Option, None, Some, is_some, option_map, slice_get}
use Rattle.std.specs.BTreeMap as tree
use Rattle.std.specs.Global.{Vec}
use Rattle.std.specs.List.{filter, list_any, range_with_len}
use Rattle.std.specs.Option.{option_map_or}
use Rattle.std.specs.Ordering.{eq_by_cmp}
use Rattle.std.specs.List.Sorted.{IsStrictlySortedBy}
use Rattle.std.proofs.lemmas.Cmp.{eq_by_cmp_equiv}
use Rattle.std.proofs.lemmas.List.{append-nil, get_or-map, length-map, map-id, take_all}
use Rattle.std.proofs.lemmas.List.Elements.{All-map, All-weaker, filter-append}
use Rattle.std.proofs.lemmas.List.FromFn.{map-range_with_len_more}
use Rattle.std.proofs.lemmas.Map.Keys.{Less-from_sorted}
use Rattle.std.proofs.lemmas.Map.Made.{is_some-lookup}
use Rattle.std.proofs.lemmas.Map.Views.{All-found, Contains-from_any, list_any-from_Contains}
use Rattle.anti_kind.specs.declared.entry.Entry.{Entry}
use Rattle.law_causal.specs.Reads.{is_at, reads_of}
use Rattle.anti_past.specs.Told.{AreReadsBySpan}
use Rattle.anti_past.specs.Spans.{AreSpansOf, IsBefore, has_read}
use Rattle.anti_past.specs.declared.span_keys.SpanKey.{SpanKey}
use Rattle.anti_past.specs.declared.span_reads.ReadsOfSpan.{ReadsOfSpan}
use Rattle.anti_past.specs.declared.span_reads.Span.{Span}
use Rattle.anti_past.specs.inner.Keys.{is_read_in, key_cmp, same_key, span_of}
use Rattle.anti_past.specs.inner.Reading.{AreNoted, filled, noted_before, noted_for, reads_under, with_place}
use Rattle.anti_past.proofs.Fronts.{any_more}
use Rattle.anti_past.proofs.InSpan.{read_in_is}
use Rattle.anti_past.proofs.KeyOrder.{before_is, key_total, same_key_is}

-- ---- the spans of keys

abbrev pub key_for : Span → SpanKey
key_for s = record { object = s.birth.object; place = s.birth.place; span = s.span }

module _ (keys : List SpanKey) where
  span_at : (i : ℕ) (s : Span) → i < length keys → get_or (map span_of keys) i s ≡ span_of (get_or keys i (key_for s))
  span_at i s low = get_or-map span_of keys i (key_for s) s low

  contains_key : (s : Span) → Contains (map span_of keys) s → Contains keys (key_for s)
  contains_key s (i, low, is) =
      let count : length (map span_of keys) ≡ length keys = length-map keys span_of in
      let within : i < length keys = omega arith in
      (i, within, ap key_for (sym (span_at i s within) ∙ is))

  contains_span : (s : Span) → Contains keys (key_for s) → Contains (map span_of keys) s
  contains_span s (i, low, is) =
      let count : length (map span_of keys) ≡ length keys = length-map keys span_of in
      (i, omega arith, span_at i s low ∙ ap span_of is)

  -- spans whose keys ascend ascend
  pub ascend : IsStrictlySortedBy key_cmp keys → AllPairs IsBefore (map span_of keys)
  ascend ordered = λ i j s less low.
      let count : length (map span_of keys) ≡ length keys = length-map keys span_of in
      let within : j < length keys = omega arith in
      subst (λ (a : Span). IsBefore a (get_or (map span_of keys) j s)) (sym (span_at i s (omega arith)))
      (subst (λ (b : Span). IsBefore (span_of (get_or keys i (key_for s))) b) (sym (span_at j s within))
      (before_is (get_or keys i (key_for s)) (get_or keys j (key_for s)) (Less-from_sorted key_cmp keys i j (key_for s) ordered less within)))

  -- a span is among them just where its key is
  pub listed : (s : Span) → list_any (eq_by_cmp key_cmp (key_for s)) keys ≡ true → Contains (map span_of keys) s
  listed s is = contains_span s (Contains-from_any same_key_is (key_for s) keys is)

  are_spans : (trace : List Entry) → IsStrictlySortedBy key_cmp keys
      → ((q : SpanKey) → list_any (eq_by_cmp key_cmp q) keys ≡ list_any (is_read_in q) trace) → AreSpansOf trace (map span_of keys)
  are_spans trace ordered found = record {
    ascending = ascend ordered;
    just = λ s.
        let same : list_any (eq_by_cmp key_cmp (key_for s)) keys ≡ has_read trace s =
        found (key_for s) ∙ ap (λ test. list_any test trace) (read_in_is (key_for s)) in (
          λ among. sym same ∙ list_any-from_Contains (eq_by_cmp_equiv key_total) (key_for s) keys (contains_key s among),
          λ read. listed s (same ∙ read),
        );
  }

-- ---- the places of what passes a test

range_more : (k : ℕ) → range_with_len 0 (k + 1) ≡ range_with_len 0 k ++ k ∷ []
range_more k =
    sym (map-id (range_with_len 0 (k + 1)))
    ∙ map-range_with_len_more (λ (i : ℕ). i) 0 k k (omega arith)
    ∙ ap (λ (is : List ℕ). is ++ k ∷ []) (map-id (range_with_len 0 k))

-- one entry more
pub places_more : (test : Entry → Bool) (trace : List Entry) (k : ℕ) (e : Entry) → slice_get trace k ≡ Some e
    → filter (is_at test trace) (range_with_len 0 (k + 1)) ≡ filter (is_at test trace) (range_with_len 0 k) ++ cond (test e) (k ∷ []) []
places_more test trace k e at =
    ap (filter (is_at test trace)) (range_more k)
    ∙ filter-append (is_at test trace) (range_with_len 0 k) (k ∷ [])
    ∙ ap (λ found. filter (is_at test trace) (range_with_len 0 k) ++ cond (option_map_or test found false) (k ∷ []) []) at

filled_more : (t : Bool) (k : ℕ) (is : List ℕ) → with_place t k (filled is) ≡ filled (is ++ cond t (k ∷ []) [])
filled_more true k [] = refl
filled_more true k (i ∷ is) = refl
filled_more false k is = ap filled (sym (append-nil is))

-- ---- what a map notes

some_more : (t : Bool) (k : ℕ) (noted : Option (List ℕ)) → is_some (with_place t k noted) ≡ (is_some noted || t)
some_more true k None = refl
some_more true k (Some is) = refl
some_more false k None = refl
some_more false k (Some is) = refl

-- one entry more
pub noted_more : (test : SpanKey → Entry → Bool) (trace : List Entry) (k : ℕ) (e : Entry) → slice_get trace k ≡ Some e
    → (old new : tree.BTreeMap SpanKey (Vec ℕ)) → AreNoted test trace k old
    → ((q : SpanKey) → noted_for new q ≡ with_place (test q e) k (noted_for old q)) → AreNoted test trace (k + 1) new
noted_more test trace k e at old new noted adds = record {
  places = λ q.
      adds q
      ∙ ap (with_place (test q e) k) (noted.places q)
      ∙ filled_more (test q e) k (noted_before test trace k q)
      ∙ ap filled (sym (places_more (test q) trace k e at));
  any = λ q.
      ap is_some (adds q)
      ∙ some_more (test q e) k (noted_for old q)
      ∙ ap (λ (t : Bool). t || test q e) (noted.any q)
      ∙ sym (any_more trace k e at (test q));
}

-- the first place of a span
pub noted_first : (m n : tree.BTreeMap SpanKey (Vec ℕ)) (key : SpanKey) (reads : Vec ℕ) (is : List ℕ) → reads.items ≡ is → tree.Updates key_cmp m n key (Some reads)
    → (q : SpanKey) → noted_for n q ≡ cond (same_key key q) (Some is) (noted_for m q)
noted_first m n key reads is same updates q =
    ap (option_map (λ (v : Vec ℕ). v.items)) (updates.0 q) ∙ by_test (same_key key q) (tree.get key_cmp m q)
  where
    by_test : (t : Bool) (was : Option (Vec ℕ)) → option_map (λ (v : Vec ℕ). v.items) (cond t (Some reads) was) ≡ cond t (Some is) (option_map (λ (v : Vec ℕ). v.items) was)
    by_test true was = ap Some same
    by_test false was = refl

module _ (m n : tree.BTreeMap SpanKey (Vec ℕ)) (key : SpanKey) (k : ℕ) where
  pub noted_new : noted_for m key ≡ None → (q : SpanKey) → noted_for n q ≡ cond (same_key key q) (Some (k ∷ [])) (noted_for m q)
      → noted_for n q ≡ with_place (same_key key q) k (noted_for m q)
  noted_new none q is = is ∙ by_test (same_key key q) refl
    where
      by_test : (t : Bool) → same_key key q ≡ t → cond t (Some (k ∷ [])) (noted_for m q) ≡ with_place t k (noted_for m q)
      by_test true on = ap (with_place true k) (sym none ∙ ap (noted_for m) (same_key_is key q on))
      by_test false off = refl

  -- and a further one
  pub noted_further : (was now : Vec ℕ) → tree.get key_cmp m key ≡ Some was → now.items ≡ was.items ++ k ∷ [] → tree.Updates key_cmp m n key (Some now)
      → (q : SpanKey) → noted_for n q ≡ with_place (same_key key q) k (noted_for m q)
  noted_further was now there more updates q =
      noted_first m n key now (was.items ++ k ∷ []) more updates q ∙ by_test (same_key key q) refl
    where
      by_test : (t : Bool) → same_key key q ≡ t → cond t (Some (was.items ++ k ∷ [])) (noted_for m q) ≡ with_place t k (noted_for m q)
      by_test true on =
          ap (λ found. with_place true k (option_map (λ (v : Vec ℕ). v.items) found)) (sym there)
          ∙ ap (λ (z : SpanKey). with_place true k (noted_for m z)) (same_key_is key q on)
      by_test false off = refl

-- ---- the entries of the map are the spans and their reads

is_filled : (is js : List ℕ) → Some js ≡ filled is → js ≡ is
is_filled [] js is = absurd (cc)
is_filled (i ∷ is) js same = cc

pub some_of : (found : Option (Vec ℕ)) → is_some (option_map (λ (v : Vec ℕ). v.items) found) ≡ is_some found
some_of None = refl
some_of (Some v) = refl

spans_under : (es : List (SpanKey × Vec ℕ)) → map (λ (s : ReadsOfSpan). s.span) (map reads_under es) ≡ map span_of (map (λ e. e.0) es)
spans_under [] = refl
spans_under (e ∷ es) = ap (λ (ss : List Span). span_of e.0 ∷ ss) (spans_under es)

module _ (trace : List Entry) (n : ℕ) (m : tree.BTreeMap SpanKey (Vec ℕ)) (whole : length trace ≡ n) (ordered : tree.IsOrdered key_cmp m) (noted : AreNoted is_read_in trace n m) where
  has_key : (q : SpanKey) → list_any (eq_by_cmp key_cmp q) (tree.keys m) ≡ list_any (is_read_in q) trace
  has_key q =
      sym (is_some-lookup (eq_by_cmp key_cmp q) m.entries)
      ∙ sym (some_of (tree.get key_cmp m q))
      ∙ noted.any q
      ∙ ap (list_any (is_read_in q)) (take_all n trace (omega arith))

  its_reads : (e : SpanKey × Vec ℕ) → tree.get key_cmp m e.0 ≡ Some e.1 → e.1.items ≡ reads_of trace (span_of e.0).birth (span_of e.0).span
  its_reads e found =
      is_filled (noted_before is_read_in trace n e.0) e.1.items (sym (ap (option_map (λ (v : Vec ℕ). v.items)) found) ∙ noted.places e.0)
      ∙ λ i. filter (is_at (read_in_is e.0 i) trace) (range_with_len 0 (sym whole i))

  pub are_reads_by_span : AreReadsBySpan trace (map reads_under m.entries)
  are_reads_by_span = record {
    spans = subst (AreSpansOf trace) (sym (spans_under m.entries)) (are_spans (tree.keys m) trace ordered has_key);
    reads = All-map (λ (s : ReadsOfSpan). s.reads.items ≡ reads_of trace s.span.birth s.span.span) reads_under m.entries
        (All-weaker (λ (e : SpanKey × Vec ℕ). tree.get key_cmp m e.0 ≡ Some e.1) (λ e. (reads_under e).reads.items ≡ reads_of trace (span_of e.0).birth (span_of e.0).span)
        its_reads m.entries (All-found key_total m ordered));
  }
