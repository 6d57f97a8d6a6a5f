-- The writes of a trace by their numbers: places and marks.
use Rattle.std.proofs.Common.{◌≡◌, ℕ, zero, suc, ◌+◌, ◌<◌, ◌≤◌, ◌++◌, Bool, true, false, cond, List, [], ◌∷◌, length, map, refl, sym, ap, ◌∙◌, subst, append-nil, inl, inr, arith}
use Rattle.std.specs.Prelude.{Some, not, slice_get}
use Rattle.std.specs.List.{filter, range_with_len}
use Rattle.std.proofs.lemmas.Bool.{cases_lt}
use Rattle.std.proofs.lemmas.List.{length-map, length_push, map-id, map_push}
use Rattle.std.proofs.lemmas.List.Filters.{length-filter_both}
use Rattle.std.proofs.lemmas.List.FromFn.{length-range_with_len, map-range_with_len_more}
use Rattle.std.proofs.lemmas.Option.{same_Some, slice_get_within}
use Rattle.anti_kind.specs.declared.entry.Entry.{Entry}
use Rattle.anti_trace.specs.declared.mark.Mark.{Mark}
use Rattle.law_causal.specs.Reads.{places}
use Rattle.law_causal.specs.Words.{wrote}
use Rattle.law_serial.specs.Order.{is_some_id, writes_at}
use Rattle.anti_order.specs.Answers.{AreMarksOf, mark_at}
use Rattle.anti_order.specs.inner.Writes.{number_at, write_places}
use Rattle.anti_order.proofs.Places.{is_at_within, places_more}

-- ---- lists

range_more : (n : ℕ) → range_with_len 0 (n + 1) ≡ range_with_len 0 n ++ n ∷ []
range_more n =
    sym (map-id (range_with_len 0 (n + 1)))
    ∙ map-range_with_len_more (λ (i : ℕ). i) 0 n n (omega arith)
    ∙ ap (λ (is : List ℕ). is ++ n ∷ []) (map-id (range_with_len 0 n))

-- an item stays in front of others, and the last is the last
found_left : (xs ys : List ℕ) (n x : ℕ) → slice_get xs n ≡ Some x → slice_get (xs ++ ys) n ≡ Some x
found_left [] ys n x at = absurd (cc)
found_left (z ∷ xs) ys zero x at = at
found_left (z ∷ xs) ys (suc n) x at = found_left xs ys n x at

found_last : (xs : List ℕ) (x : ℕ) → slice_get (xs ++ x ∷ []) (length xs) ≡ Some x
found_last [] x = refl
found_last (z ∷ xs) x = found_last xs x

-- ---- numbers and places

module _ (trace : List Entry) where
  -- the writes before a place
  abbrev before : ℕ → List ℕ
  before k = filter (writes_at trace) (range_with_len 0 k)

  before_more : (k : ℕ) (t : Bool) → writes_at trace k ≡ t → before (k + 1) ≡ before k ++ cond t (k ∷ []) []
  before_more k t is = places_more (writes_at trace) k ∙ ap (λ (b : Bool). before k ++ cond b (k ∷ []) []) is

  -- they have the numbers from 0 on
  numbered_before : (k : ℕ) → map (number_at trace) (before k) ≡ range_with_len 0 (number_at trace k)
  numbered_before zero = refl
  numbered_before (suc k) =
      let next : k + 1 ≡ suc k = omega arith in
      subst (λ (n : ℕ). map (number_at trace) (before n) ≡ range_with_len 0 (number_at trace n)) next
      (by_test (writes_at trace k) refl (numbered_before k))
    where
      by_test : (t : Bool) → writes_at trace k ≡ t → map (number_at trace) (before k) ≡ range_with_len 0 (number_at trace k)
          → map (number_at trace) (before (k + 1)) ≡ range_with_len 0 (length (before (k + 1)))
      by_test true is rest =
          let more : before (k + 1) ≡ before k ++ k ∷ [] = before_more k true is in
          ap (map (number_at trace)) more
          ∙ map_push (number_at trace) (before k) k
          ∙ ap (λ (ns : List ℕ). ns ++ number_at trace k ∷ []) rest
          ∙ sym (range_more (number_at trace k))
          ∙ ap (range_with_len 0) (sym (length_push (before k) k))
          ∙ ap (λ (is : List ℕ). range_with_len 0 (length is)) (sym more)
      by_test false is rest =
          let more : before (k + 1) ≡ before k = before_more k false is ∙ append-nil (before k) in
          ap (map (number_at trace)) more ∙ rest ∙ ap (λ (is : List ℕ). range_with_len 0 (length is)) (sym more)

  pub all_numbered : map (number_at trace) (write_places trace) ≡ range_with_len 0 (length (write_places trace))
  all_numbered = numbered_before (length trace)

  -- a write before a place stands under its number
  under_more : (k i : ℕ) → i < k + 1 → writes_at trace i ≡ true → (i < k → slice_get (before k) (number_at trace i) ≡ Some i)
      → slice_get (before (k + 1)) (number_at trace i) ≡ Some i
  under_more k i low is earlier =
      elim (cases_lt i k) [
        | inl first ↦
            ap (λ (is : List ℕ). slice_get is (number_at trace i)) (places_more (writes_at trace) k)
            ∙ found_left (before k) (cond (writes_at trace k) (k ∷ []) []) (number_at trace i) i (earlier first)
        | inr past ↦
            let here : i ≡ k = omega (arith, low, past) in
            ap (λ (is : List ℕ). slice_get is (number_at trace i)) (before_more k true (ap (writes_at trace) (sym here) ∙ is))
            ∙ ap (λ (j : ℕ). slice_get (before k ++ k ∷ []) (number_at trace j)) here
            ∙ found_last (before k) k
            ∙ ap Some (sym here)
      ]

  under_before : (k i : ℕ) → i < k → writes_at trace i ≡ true → slice_get (before k) (number_at trace i) ≡ Some i
  under_before zero i low is = absurd (omega (arith, low))
  under_before (suc k) i low is =
      let next : k + 1 ≡ suc k = omega arith in
      subst (λ (n : ℕ). slice_get (before n) (number_at trace i) ≡ Some i) next
      (under_more k i (omega (arith, low)) is (λ first. under_before k i first is))

  pub under_number : (i : ℕ) → writes_at trace i ≡ true → slice_get (write_places trace) (number_at trace i) ≡ Some i
  under_number i is = under_before (length trace) i (is_at_within (λ a. is_some_id (wrote a)) trace i is) is

  -- so it has no other's number
  pub own_number : (i j : ℕ) → writes_at trace i ≡ true → writes_at trace j ≡ true → number_at trace i ≡ number_at trace j → i ≡ j
  own_number i j one other same =
      same_Some i j
      (sym (under_number i one) ∙ ap (λ (n : ℕ). slice_get (write_places trace) n) same ∙ under_number j other)

  -- ---- marks

  module _ (marks : List Mark) (are : AreMarksOf trace (write_places trace) marks) where
    pub as_many : length marks ≡ length (write_places trace)
    as_many = sym (length-map marks Some) ∙ ap length (sym are) ∙ length-map (write_places trace) (mark_at trace)

    -- no more than there are entries
    pub few : length marks ≤ length trace
    few =
        let count = as_many in
        let both = length-filter_both (writes_at trace) (λ i. not (writes_at trace i)) (λ i. refl) (places trace) in
        let all = length-range_with_len 0 (length trace) in
        omega (arith, count, both, all)

    pub number_within : (i : ℕ) → writes_at trace i ≡ true → number_at trace i < length marks
    number_within i is =
        let count = as_many in
        let low : number_at trace i < length (write_places trace) =
        slice_get_within (write_places trace) (number_at trace i) i (under_number i is) in
        omega (arith, count, low)
