-- How many spans have which answer, by what is known of their reads.
use Rattle.std.proofs.Common.{◌≡◌, ℕ, ◌+◌, ◌-◌, ◌<◌, Bool, true, false, not, cond, List, [], ◌∷◌, length, map, count_by, refl, sym, ap, ap₂, ◌∙◌, subst, arith}
use Rattle.std.specs.Prelude.{All, Option, Some, None, is_some, slice_get}
use Rattle.std.specs.List.{find}
use Rattle.std.specs.Option.{option_map, unwrap_or}
use Rattle.std.proofs.lemmas.List.Elements.{All-head, All-map, All-same, All-tail, All-weaker}
use Rattle.std.proofs.lemmas.List.Sums.{sum_by-cons}
use Rattle.std.proofs.lemmas.Option.{slice_get-get_or}
use Rattle.std.proofs.lemmas.Simd.{map-map}
use Rattle.anti_ids.specs.List.{plain}
use Rattle.anti_kind.specs.declared.entry.Entry.{Entry}
use Rattle.anti_kind.proofs.Sums.{count_all, count_none}
use Rattle.anti_app.specs.declared.app.App.{App}
use Rattle.anti_trace.specs.declared.mark.Mark.{Mark}
use Rattle.law_causal.specs.Carried.{IsLossless}
use Rattle.law_causal.specs.Reads.{is_at, reads_of}
use Rattle.law_causal.specs.Words.{reads}
use Rattle.anti_past.specs.Losses.{LosesFirst, mark_of}
use Rattle.anti_past.specs.Pasts.{ArePastsOf}
use Rattle.anti_past.specs.Told.{AreReadsBySpan}
use Rattle.anti_past.specs.Spans.{AreSpansOf}
use Rattle.anti_past.specs.declared.before_reads.Past.{Past}
use Rattle.anti_past.specs.declared.span_reads.ReadsOfSpan.{ReadsOfSpan}
use Rattle.law_serial.specs.Order.{order_of}
use Rattle.anti_order.specs.Answers.{AreAnswersOf, AreMarksOf, IsAnswer, mark_at}
use Rattle.anti_order.specs.Tallies.{AreCountsOf}
use Rattle.anti_order.specs.Counts.{how_many, is_lossy, is_ordered, is_unguarded}
use Rattle.anti_order.specs.declared.answer.OrderAnswer.{OrderAnswer}
use Rattle.anti_order.specs.declared.answer.OrderAnswer.TheVariants.{Lossy, Unguarded, Order}
use Rattle.anti_order.specs.declared.answer.SpanAnswer.{SpanAnswer}
use Rattle.anti_order.specs.inner.Grounds.{has_unsettled, is_settled_at}
use Rattle.anti_order.proofs.ReadPlaces.{all_within, are_reads, order_within}
use Rattle.anti_order.proofs.Unsettled.{all_settled, first_within, is_first}

-- ---- counts

count_map : {X Y : Type 0} (p : Y → Bool) (f : X → Y) (xs : List X) → count_by p (map f xs) ≡ count_by (λ x. p (f x)) xs
count_map p f [] = refl
count_map p f (x ∷ xs) =
    sum_by-cons (λ y. cond (p y) 1 0) (f x) (map f xs)
    ∙ ap (λ (n : ℕ). cond (p (f x)) 1 0 + n) (count_map p f xs)
    ∙ sym (sum_by-cons (λ y. cond (p (f y)) 1 0) x xs)

-- those that pass a test, and those that fail it
count_both : {X : Type 0} (p : X → Bool) (xs : List X) → count_by p xs + count_by (λ x. not (p x)) xs ≡ length xs
count_both p [] = refl
count_both p (x ∷ xs) =
    let rest : count_by p xs + count_by (λ y. not (p y)) xs ≡ length xs = count_both p xs in
    let passes : count_by p (x ∷ xs) ≡ cond (p x) 1 0 + count_by p xs = sum_by-cons (λ y. cond (p y) 1 0) x xs in
    let fails : count_by (λ y. not (p y)) (x ∷ xs) ≡ cond (not (p x)) 1 0 + count_by (λ y. not (p y)) xs =
    sum_by-cons (λ y. cond (not (p y)) 1 0) x xs in
    let one : cond {A = ℕ} (p x) 1 0 + cond {A = ℕ} (not (p x)) 1 0 ≡ 1 = either (p x) in
    omega arith
  where
    either : (b : Bool) → cond {A = ℕ} b 1 0 + cond {A = ℕ} (not b) 1 0 ≡ 1
    either true = refl
    either false = refl

-- ---- marks of places

-- the mark of the entry at a place; past the end it is of no use
abbrev known_mark : List Entry → ℕ → Mark
known_mark trace i = unwrap_or (mark_at trace i) (record { object = 0; place = 0 })

is_marked : (trace : List Entry) (i : ℕ) → i < length trace → mark_at trace i ≡ Some (known_mark trace i)
is_marked [] i low = absurd (omega arith)
is_marked (e ∷ es) i low =
    by_entry (slice_get (e ∷ es) i) (slice_get-get_or (e ∷ es) i e low)
  where
    by_entry : (found : Option Entry) → {a : Entry} → found ≡ Some a
        → option_map mark_of found ≡ Some (unwrap_or (option_map mark_of found) (record { object = 0; place = 0 }))
    by_entry None is = absurd (cc)
    by_entry (Some a) is = refl

are_marked : (trace : List Entry) (places : List ℕ) → All (λ i. i < length trace) places → AreMarksOf trace places (map (known_mark trace) places)
are_marked trace [] low = refl
are_marked trace (i ∷ is) low =
    ap₂ (λ (m : Option Mark) (ms : List (Option Mark)). m ∷ ms) (is_marked trace i (All-head (λ k. k < length trace) i is low))
    (are_marked trace is (All-tail (λ k. k < length trace) i is low))

-- ---- an answer for each span

module _ (answer : List ℕ → OrderAnswer) where
  abbrev with_answer : ReadsOfSpan → SpanAnswer
  with_answer s = record { span = s.span; answer = answer s.reads.items }

  are_answers : (app : App) (trace : List Entry) (spans : List ReadsOfSpan) → AreReadsBySpan trace spans
      → ((rs : List ℕ) → All (λ r. is_at (λ e. reads e.call) trace r ≡ true) rs → IsAnswer app trace rs (answer rs))
      → AreAnswersOf app trace (map with_answer spans)
  are_answers app trace spans listed is =
      let right : SpanAnswer → Type 0 = λ a. IsAnswer app trace (reads_of trace a.span.birth a.span.span) a.answer in
      record {
        spans = subst (AreSpansOf trace) (sym (map-map (λ (a : SpanAnswer). a.span) with_answer spans)) listed.spans;
        answered = All-map right with_answer spans
            (All-weaker (λ (s : ReadsOfSpan). s.reads.items ≡ reads_of trace s.span.birth s.span.span) (λ s. right (with_answer s))
            (λ s its.
            let its_reads : List ℕ = reads_of trace s.span.birth s.span.span in
            subst (λ (rs : List ℕ). IsAnswer app trace its_reads (answer rs)) (sym its) (is its_reads (are_reads trace s.span.birth s.span.span)))
            spans listed.reads);
      }

  -- how many have such an answer
  how_many_are : (test : OrderAnswer → Bool) (spans : List ReadsOfSpan)
      → how_many test (map with_answer spans) ≡ count_by (λ s. test (answer s.reads.items)) spans
  how_many_are test spans = count_map (λ (a : SpanAnswer). test a.answer) with_answer spans

-- ---- the reads of spans

-- are places of the trace
pub reads_within : (trace : List Entry) (n : ℕ) (spans : List ReadsOfSpan) → AreReadsBySpan trace spans → length trace ≡ n
    → All (λ s. All (λ r. r < n) s.reads.items) spans
reads_within trace n spans listed count =
    All-weaker (λ (s : ReadsOfSpan). s.reads.items ≡ reads_of trace s.span.birth s.span.span) (λ s. All (λ r. r < n) s.reads.items)
    (λ s its.
    let its_reads : List ℕ = reads_of trace s.span.birth s.span.span in
    All-same (λ r. r < n) s.reads.items its_reads its
    (subst (λ (m : ℕ). All (λ r. r < m) its_reads) count (all_within (λ e. reads e.call) trace its_reads (are_reads trace s.span.birth s.span.span))))
    spans listed.reads

-- ---- a trace that loses an id

pub all_lossy : (app : App) (trace : List Entry) (spans : List ReadsOfSpan) (mark : Mark) → AreReadsBySpan trace spans → LosesFirst app trace mark
    → AreCountsOf app trace (record { ordered = 0; unguarded = 0; lossy = length spans })
all_lossy app trace spans mark listed loses =
    let answer : List ℕ → OrderAnswer = λ rs. Lossy mark in
    record {
      answers = map (with_answer answer) spans;
      answered = are_answers answer app trace spans listed (λ rs all. loses);
      ordered = sym (how_many_are answer is_ordered spans ∙ count_none (λ (s : ReadsOfSpan). false) spans (λ k d low. refl));
      unguarded = sym (how_many_are answer is_unguarded spans ∙ count_none (λ (s : ReadsOfSpan). false) spans (λ k d low. refl));
      lossy = sym (how_many_are answer is_lossy spans ∙ count_all (λ (s : ReadsOfSpan). true) spans (λ k d low. refl));
    }

-- ---- a trace that loses none

-- what is answered of reads, by the first of them that is not settled
abbrev answer_by : App → List Entry → List ℕ → Option ℕ → OrderAnswer
answer_by app trace rs (Some r) = Unguarded (known_mark trace r)
answer_by app trace rs None = Order (plain (map (known_mark trace) (order_of app trace rs)))

ordered_by : (app : App) (trace : List Entry) (rs : List ℕ) (first : Option ℕ) → is_ordered (answer_by app trace rs first) ≡ not (is_some first)
ordered_by app trace rs (Some r) = refl
ordered_by app trace rs None = refl

unguarded_by : (app : App) (trace : List Entry) (rs : List ℕ) (first : Option ℕ) → is_unguarded (answer_by app trace rs first) ≡ is_some first
unguarded_by app trace rs (Some r) = refl
unguarded_by app trace rs None = refl

not_lossy : (app : App) (trace : List Entry) (rs : List ℕ) (first : Option ℕ) → is_lossy (answer_by app trace rs first) ≡ false
not_lossy app trace rs (Some r) = refl
not_lossy app trace rs None = refl

module _ (app : App) (trace : List Entry) (pasts : List (Option Past)) (lossless : IsLossless app trace) (are : ArePastsOf app trace pasts) where
  abbrev first_of : List ℕ → Option ℕ
  first_of rs = find (λ r. not (is_settled_at pasts r)) rs

  is_answer : (rs : List ℕ) → All (λ r. is_at (λ e. reads e.call) trace r ≡ true) rs → IsAnswer app trace rs (answer_by app trace rs (first_of rs))
  is_answer rs all = by_first (first_of rs) refl
    where
      by_first : (first : Option ℕ) → find (λ r. not (is_settled_at pasts r)) rs ≡ first → IsAnswer app trace rs (answer_by app trace rs first)
      by_first None none = (
        lossless,
        all_settled app trace pasts are rs all none,
        are_marked trace (order_of app trace rs) (order_within app trace rs all),
      )
      by_first (Some r) is = (
        lossless,
        is_first app trace pasts are rs all r is (known_mark trace r) (is_marked trace r (first_within app trace pasts are rs all r is)),
      )

  pub none_lossy : (spans : List ReadsOfSpan) (unguarded : ℕ) → AreReadsBySpan trace spans
      → unguarded ≡ count_by (λ s. has_unsettled pasts s.reads.items) spans
      → AreCountsOf app trace (record { ordered = length spans - unguarded; unguarded = unguarded; lossy = 0 })
  none_lossy spans count listed counted =
      let answer : List ℕ → OrderAnswer = λ rs. answer_by app trace rs (first_of rs) in
      let unsettled : ReadsOfSpan → Bool = λ s. has_unsettled pasts s.reads.items in
      let both : count_by unsettled spans + count_by (λ s. not (unsettled s)) spans ≡ length spans = count_both unsettled spans in
      let others : length spans - count ≡ count_by (λ s. not (unsettled s)) spans = omega arith in
      record {
        answers = map (with_answer answer) spans;
        answered = are_answers answer app trace spans listed is_answer;
        ordered = others
            ∙ sym (how_many_are answer is_ordered spans
            ∙ (λ i. count_by (λ s. ordered_by app trace s.reads.items (first_of s.reads.items) i) spans));
        unguarded = counted
            ∙ sym (how_many_are answer is_unguarded spans
            ∙ (λ i. count_by (λ s. unguarded_by app trace s.reads.items (first_of s.reads.items) i) spans));
        lossy = sym (how_many_are answer is_lossy spans
            ∙ count_none (λ s. is_lossy (answer s.reads.items)) spans (λ k d low. not_lossy app trace _ _));
      }
