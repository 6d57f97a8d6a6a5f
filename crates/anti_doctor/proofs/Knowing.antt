-- What is known of what is causally before the entries of a legal trace, along a walk.
use Rattle.std.proofs.Common.{◌≡◌, ℕ, zero, suc, ◌+◌, ◌-◌, ◌<◌, ◌≤◌, ◌↔◌, ◌||◌, Bool, true, false, cond, List, [], ◌∷◌, length, length-append, refl, sym, ap, ◌∙◌, subst, inl, inr, arith}
use Rattle.std.specs.Prelude.{Option, None, Some, slice_get}
use Rattle.std.specs.BTreeMap as tree
use Rattle.std.specs.List.{filter, range_with_len}
use Rattle.std.specs.Option.{option_and_then}
use Rattle.std.proofs.lemmas.Bool.{cases_lt, or_cases, or_left, or_right}
use Rattle.std.proofs.lemmas.Option.{slice_get_within}
use Rattle.anti_ids.specs.Ids.{has_id}
use Rattle.anti_ids.specs.declared.id.WriteId.{WriteId}
use Rattle.anti_kind.specs.declared.entry.Entry.{Entry}
use Rattle.anti_app.specs.declared.app.App.{App}
use Rattle.law_causal.specs.Causal.{Before}
use Rattle.law_causal.specs.Words.{shown, wrote}
use Rattle.law_causal.specs.inner.Taken.{told}
use Rattle.law_causal.proofs.Facts.{Facts}
use Rattle.law_serial.specs.Order.{is_some_id, writes_at}
use Rattle.law_serial.proofs.Pasts.{passes_some, some_passes}
use Rattle.anti_order.specs.declared.writes.Writes.{Writes}
use Rattle.anti_order.specs.inner.NumberSets.{has, room_for}
use Rattle.anti_order.specs.inner.Writes.{AreWritesOf, IsWriteAt, number_at, number_in, write_places}
use Rattle.anti_order.proofs.Places.{at_place, is_at_entry, places_more}
use Rattle.anti_doctor.specs.declared.causes.Causes.{Causes}
use Rattle.anti_doctor.specs.declared.passages.Passage.{Passage}
use Rattle.anti_doctor.specs.inner.Gathered.{HasPassed, IsUpTo, KnowsCauses, draws, has_in, has_kept, has_passed, have_kept}
use Rattle.anti_doctor.specs.inner.Passages.{feeds, passage_cmp, span_of, taken_of}
use Rattle.anti_doctor.proofs.Drawing.{Draws, LastStep, by_letter, by_shown, by_span, by_told, last_step, step_before}
use Rattle.anti_doctor.proofs.Feeding.{feeds_letter, feeds_span, letter_feeds, span_feeds}

-- ---- numbers

module _ (trace : List Entry) where
  pub number_more : (k : ℕ) (t : Bool) → writes_at trace k ≡ t → number_at trace (k + 1) ≡ number_at trace k + length (cond t (k ∷ []) [])
  number_more k t is =
      ap length (places_more (writes_at trace) k)
      ∙ length-append (filter (writes_at trace) (range_with_len 0 k)) (cond (writes_at trace k) (k ∷ []) [])
      ∙ ap (λ (b : Bool). number_at trace k + length (cond b (k ∷ []) [])) is

  number_up : (j d : ℕ) → number_at trace j ≤ number_at trace (j + d)
  number_up j zero = let same : j + 0 ≡ j = omega arith in subst (λ (n : ℕ). number_at trace j ≤ number_at trace n) (sym same) (omega arith)
  number_up j (suc d) =
      let rest = number_up j d in
      let more = number_more (j + d) (writes_at trace (j + d)) refl in
      let next : j + d + 1 ≡ j + suc d = omega arith in
      subst (λ (n : ℕ). number_at trace j ≤ number_at trace n) next (omega (arith, rest, more))

  number_mono : (j k : ℕ) → j ≤ k → number_at trace j ≤ number_at trace k
  number_mono j k low =
      let is : j + (k - j) ≡ k = omega (arith, low) in subst (λ (n : ℕ). number_at trace j ≤ number_at trace n) is (number_up j (k - j))

  pub number_before : (k j : ℕ) → writes_at trace k ≡ true → k < j → number_at trace k < number_at trace j
  number_before k j write low =
      let more = number_more k true write in
      let rest = number_mono (k + 1) j (omega (arith, low)) in
      omega (arith, more, rest)

  -- a write has a number below that of a place behind it only
  pub before_number : (k j : ℕ) → number_at trace k < number_at trace j → k < j
  before_number k j less =
      elim (cases_lt k j) [ inl low ↦ low | inr past ↦ let up = number_mono j k past in absurd (omega (arith, less, up)) ]

  -- there is room for all
  pub number_fits : (j : ℕ) → j ≤ length trace → number_at trace j < room_for (length (write_places trace))
  number_fits j low =
      let up : number_at trace j ≤ length (write_places trace) = number_mono j (length trace) low in omega (arith, up)

-- ---- what is known at the start

pub starts : (trace : List Entry) (causes : Causes) → causes.kept.items ≡ [] → ((q : Passage) → tree.get passage_cmp causes.passed q ≡ None)
    → KnowsCauses trace 0 causes
starts trace causes none empty = record {
  closed = record {
    kept = λ m set there. let never = sym (ap (λ (sets : List (List ℕ)). slice_get sets m) none) ∙ there in absurd (cc);
    passed = λ q set there. let never = sym (empty q) ∙ there in absurd (cc);
  };
  count = ap length none;
  kept = λ i k write other low. absurd (omega (arith, low));
  passed = λ i q write. (
    λ has. let never : false ≡ true = sym (ap (λ found. has_in found (number_at trace i)) (empty q)) ∙ has in absurd (cc),
    λ came. let low = came.low in absurd (omega (arith, low)),
  );
}

-- ---- what an entry draws is what is before it

module _ (app : App) (trace : List Entry) (facts : Facts app trace) (writes : Writes) (are : AreWritesOf trace writes) (j : ℕ) (e : Entry)
    (at : slice_get trace j ≡ Some e) (causes : Causes) (knows : KnowsCauses trace j causes)
    (i : ℕ) (write : writes_at trace i ≡ true) where
  abbrev number : ℕ
  number = number_at trace i

  -- by a passage
  came_by : (passage : Option Passage) → has_passed causes passage number ≡ true
      → (q : Passage) × (passage ≡ Some q) × HasPassed trace j q i
  came_by None has = absurd (cc)
  came_by (Some q) has = (q, refl, (knows.passed i q write).0 has)

  from_span : has_passed causes (span_of e) number ≡ true → Before trace i j
  from_span has =
      let (q, is, came) = came_by (span_of e) has in
      let its = feeds_span q came.entry e is came.feeds in
      step_before app trace facts i j e at (record {
        place = came.place;
        entry = came.entry;
        there = came.there;
        low = came.low;
        draws = by_span (record { before = came.low; process = its.0; actor = its.1; span = its.2 });
        upto = came.upto;
      })

  from_letter : has_passed causes (taken_of e) number ≡ true → Before trace i j
  from_letter has =
      let (q, is, came) = came_by (taken_of e) has in
      step_before app trace facts i j e at (record {
        place = came.place;
        entry = came.entry;
        there = came.there;
        low = came.low;
        draws = by_letter (feeds_letter q came.entry e is came.feeds);
        upto = came.upto;
      })

  -- by an id
  record FromWrite (w : WriteId) : Type 0 where
    place : ℕ
    entry : Entry
    there : slice_get trace place ≡ Some entry
    wrote_it : has_id w (wrote entry) ≡ true
    low : place < j
    upto : IsUpTo trace i place

  is_write : (ids : List WriteId) (w : WriteId) → has_id w ids ≡ true → is_some_id ids ≡ true
  is_write [] w has = absurd (cc)
  is_write (x ∷ xs) w has = refl

  set_there : (found : Option (List ℕ)) (m : ℕ) → slice_get causes.kept.items m ≡ found → has_in found number ≡ true
      → m < length causes.kept.items
  set_there None m is has = absurd (cc)
  set_there (Some set) m is has = slice_get_within causes.kept.items m set is

  kept_by : (w : WriteId) (found : Option ℕ) → number_in writes w ≡ found
      → has_in (option_and_then (λ m. slice_get causes.kept.items m) found) number ≡ true → FromWrite w
  kept_by w None is has = absurd (cc)
  kept_by w (Some m) is has =
      let (k, written, same) = are.found w m is in
      let (a, at_k, wrote_it) = at_place (λ x. has_id w (wrote x)) trace k written in
      let other : writes_at trace k ≡ true = is_at_entry (λ x. is_some_id (wrote x)) trace k a at_k ∙ is_write (wrote a) w wrote_it in
      let within : m < length causes.kept.items = set_there (slice_get causes.kept.items m) m refl has in
      let count = knows.count in
      let low : k < j = before_number trace k j (omega (arith, within, count, same)) in
      record {
        place = k;
        entry = a;
        there = at_k;
        wrote_it = wrote_it;
        low = low;
        upto = (knows.kept i k write other low).0 (ap (λ n. has_in (slice_get causes.kept.items n) number) same ∙ has);
      }

  from_write : (w : WriteId) → has_kept causes writes number w ≡ true → FromWrite w
  from_write w has = kept_by w (number_in writes w) refl has

  from_shown : have_kept causes writes (shown e) number ≡ true → Before trace i j
  from_shown any =
      let (w, has, its) = some_passes (has_kept causes writes number) (shown e) any in
      let from : FromWrite w = from_write w its in
      step_before app trace facts i j e at (record {
        place = from.place;
        entry = from.entry;
        there = from.there;
        low = from.low;
        draws = by_shown w from.wrote_it has;
        upto = from.upto;
      })

  from_told : have_kept causes writes (told e) number ≡ true → Before trace i j
  from_told any =
      let (w, has, its) = some_passes (has_kept causes writes number) (told e) any in
      let from : FromWrite w = from_write w its in
      step_before app trace facts i j e at (record {
        place = from.place;
        entry = from.entry;
        there = from.there;
        low = from.low;
        draws = by_told w from.wrote_it has;
        upto = from.upto;
      })

  abbrev span : Bool
  span = has_passed causes (span_of e) number

  abbrev letter : Bool
  letter = has_passed causes (taken_of e) number

  abbrev rows : Bool
  rows = have_kept causes writes (shown e) number

  abbrev kept : Bool
  kept = have_kept causes writes (told e) number

  drawn_is_before : draws causes writes e number ≡ true → Before trace i j
  drawn_is_before has =
      elim (or_cases ((span || letter) || rows) kept has) [
        | inl others ↦
            elim (or_cases (span || letter) rows others) [
              | inl passed ↦ elim (or_cases span letter passed) [ inl is ↦ from_span is | inr is ↦ from_letter is ]
              | inr is ↦ from_shown is
            ]
        | inr is ↦ from_told is
      ]

  passed_is : (q : Passage) (s : LastStep trace i j e) → feeds q s.entry ≡ true → (passage : Option Passage) → passage ≡ Some q
      → has_passed causes passage number ≡ true
  passed_is q s fed passage is =
      ap (λ p. has_passed causes p number) is
      ∙ (knows.passed i q write).1
      (record { place = s.place; entry = s.entry; there = s.there; low = s.low; feeds = fed; upto = s.upto })

  kept_is : (w : WriteId) (s : LastStep trace i j e) → has_id w (wrote s.entry) ≡ true → has_kept causes writes number w ≡ true
  kept_is w s has =
      let written : IsWriteAt w trace s.place = is_at_entry (λ x. has_id w (wrote x)) trace s.place s.entry s.there ∙ has in
      let other : writes_at trace s.place ≡ true =
      is_at_entry (λ x. is_some_id (wrote x)) trace s.place s.entry s.there ∙ is_write (wrote s.entry) w has in
      ap (λ found. has_in (option_and_then (λ m. slice_get causes.kept.items m) found) number) (are.known w s.place written)
      ∙ (knows.kept i s.place write other s.low).1 s.upto

  last_is_drawn : (s : LastStep trace i j e) → Draws s.place s.entry j e → draws causes writes e number ≡ true
  last_is_drawn s (by_span earlier) =
      let (q, is, fed) = span_feeds s.place s.entry j e earlier in
      or_left ((span || letter) || rows) kept (or_left (span || letter) rows (or_left span letter (passed_is q s fed (span_of e) is)))
  last_is_drawn s (by_letter delivers) =
      let (q, is, fed) = letter_feeds s.entry e delivers in
      or_left ((span || letter) || rows) kept (or_left (span || letter) rows (or_right span letter (passed_is q s fed (taken_of e) is)))
  last_is_drawn s (by_shown w has shows) =
      or_left ((span || letter) || rows) kept
      (or_right (span || letter) rows (passes_some (has_kept causes writes number) (shown e) w shows (kept_is w s has)))
  last_is_drawn s (by_told w has tells) =
      or_right ((span || letter) || rows) kept (passes_some (has_kept causes writes number) (told e) w tells (kept_is w s has))

  before_is_drawn : Before trace i j → draws causes writes e number ≡ true
  before_is_drawn before = let s = last_step app trace facts before e at in last_is_drawn s s.draws

  pub drawn_is : draws causes writes e number ≡ true ↔ Before trace i j
  drawn_is = (drawn_is_before, before_is_drawn)
