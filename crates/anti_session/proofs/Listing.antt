-- The sessions among the spans of an index, and their answers.
use Rattle.std.proofs.Common.{◌≡◌, ℕ, zero, suc, ◌+◌, ◌<◌, ◌&&◌, ◌++◌, Bool, true, false, cond, List, [], ◌∷◌, length, get_or, map, take, refl, sym, ap, ◌∙◌, subst, append-nil, eqb-true, arith}
use Rattle.std.specs.Prelude.{◌==◌, ◌≢◌, not, Option, None, Some, flat_map}
use Rattle.std.specs.BTreeMap as tree
use Rattle.std.specs.Global.{Vec}
use Rattle.std.specs.List.{filter, list_any}
use Rattle.std.specs.Option.{is_some, option_map_or}
use Rattle.std.specs.Ordering.{eq_by_cmp}
use Rattle.std.proofs.lemmas.Bool.{and_from, and_parts}
use Rattle.std.proofs.lemmas.List.{map_push, take_more}
use Rattle.std.proofs.lemmas.List.Elements.{All-push, filter-append}
use Rattle.std.proofs.lemmas.List.Kept.{AllPairs-filter}
use Rattle.std.proofs.lemmas.Map.Made.{is_some-lookup}
use Rattle.anti_kind.specs.declared.actor.Birth.{Birth}
use Rattle.anti_kind.specs.declared.entry.Entry.{Entry}
use Rattle.anti_kind.proofs.Finding.{filter_contains}
use Rattle.anti_app.specs.declared.app.App.{App}
use Rattle.anti_past.specs.Spans.{IsBefore}
use Rattle.anti_past.specs.declared.span_keys.SpanKey.{SpanKey}
use Rattle.anti_past.specs.declared.span_reads.ReadsOfSpan.{ReadsOfSpan}
use Rattle.anti_past.specs.declared.span_reads.Span.{Span}
use Rattle.anti_past.specs.inner.Keys.{is_in, key_cmp, span_of}
use Rattle.anti_past.specs.inner.Reading.{AreNoted}
use Rattle.anti_past.proofs.SpansRead.{ascend, key_for, listed}
use Rattle.anti_order.specs.Answers.{IsAnswer}
use Rattle.anti_order.specs.declared.answer.SpanAnswer.{SpanAnswer}
use Rattle.anti_session.specs.Members.{adds_at, members, members_in, span_places}
use Rattle.anti_session.specs.Sessions.{AreSessionsOf, IsSession, is_requested}
use Rattle.anti_session.specs.inner.Listed.{AreAnswersFor, AreListed, AreMembersBySession, is_session}
use Rattle.anti_session.proofs.Indexing.{noted_places}

-- ---- one span more

module _ (trace : List Entry) (among : List Span) (s : Span) (sessions : List ReadsOfSpan) (are : AreListed trace among sessions) where
  kept : (t : Bool) → is_session trace s ≡ t → filter (is_session trace) (among ++ s ∷ []) ≡ filter (is_session trace) among ++ cond t
      (s ∷ []) []
  kept t is =
      filter-append (is_session trace) among (s ∷ []) ∙ ap (λ (b : Bool). filter (is_session trace) among ++ cond b (s ∷ []) []) is

  pub not_listed : is_session trace s ≡ false → AreListed trace (among ++ s ∷ []) sessions
  not_listed off = record {
    spans = are.spans ∙ sym (append-nil (filter (is_session trace) among)) ∙ sym (kept false off);
    members = are.members;
  }

  pub one_listed : (r : ReadsOfSpan) → r.span ≡ s → r.reads.items ≡ members trace s.birth s.span → is_session trace s ≡ true
      → AreListed trace (among ++ s ∷ []) (sessions ++ r ∷ [])
  one_listed r same its on = record {
    spans = map_push (λ (x : ReadsOfSpan). x.span) sessions r
        ∙ ap (λ (xs : List Span). xs ++ r.span ∷ []) are.spans
        ∙ ap (λ (x : Span). filter (is_session trace) among ++ x ∷ []) same
        ∙ sym (kept true on);
    members = All-push (λ x. x.reads.items ≡ members trace x.span.birth x.span.span) sessions r are.members
        (its ∙ ap (λ (x : Span). members trace x.birth x.span) (sym same));
  }

-- a span that is not requested, or has no members, is none
module _ (trace : List Entry) (s : Span) where
  pub not_requested : is_requested trace s.birth ≡ false → is_session trace s ≡ false
  not_requested off = ap (λ (b : Bool). b && not (length (members trace s.birth s.span) == 0)) off

  pub without_members : is_requested trace s.birth ≡ true → (length (members trace s.birth s.span) == 0) ≡ true → is_session trace s ≡ false
  without_members on none =
      ap (λ (b : Bool). b && not (length (members trace s.birth s.span) == 0)) on ∙ ap (λ (b : Bool). not b) none

  pub with_members : is_requested trace s.birth ≡ true → (length (members trace s.birth s.span) == 0) ≡ false → is_session trace s ≡ true
  with_members on some =
      ap (λ (b : Bool). b && not (length (members trace s.birth s.span) == 0)) on ∙ ap (λ (b : Bool). not b) some

  filled_list : (xs : List ℕ) → (xs ≢ []) → not (length xs == 0) ≡ true
  filled_list [] some = absurd (some refl)
  filled_list (x ∷ xs) some = ap (λ (b : Bool). not b) (by_test (length (x ∷ xs) == 0) refl)
    where
      by_test : (t : Bool) → (length (x ∷ xs) == 0) ≡ t → (length (x ∷ xs) == 0) ≡ false
      by_test true on = let none : suc (length xs) ≡ 0 = eqb-true (suc (length xs)) 0 on in absurd (omega arith)
      by_test false off = off

  some_list : (xs : List ℕ) → not (length xs == 0) ≡ true → xs ≢ []
  some_list [] some = λ none. absurd (cc)
  some_list (x ∷ xs) some = λ none. absurd (cc)

  pub session_is : is_session trace s ≡ true → IsSession trace s
  session_is is =
      let parts = and_parts (is_requested trace s.birth) (not (length (members trace s.birth s.span) == 0)) is in
      record { requested = parts.0; some = some_list (members trace s.birth s.span) parts.1 }

  pub is_session_of : IsSession trace s → is_session trace s ≡ true
  is_session_of its =
      and_from (is_requested trace s.birth) (not (length (members trace s.birth s.span) == 0)) its.requested
      (filled_list (members trace s.birth s.span) its.some)

-- ---- all of an index

no_places : (n : ℕ) (trace : List Entry) (birth : Birth) (span : ℕ) → span_places trace birth span ≡ [] → members_in n trace birth span ≡ []
no_places zero trace birth span none = refl
no_places (suc n) trace birth span none = ap (flat_map (adds_at (λ b. members_in n trace b 1) trace birth span)) none

module _ (trace : List Entry) (m : tree.BTreeMap SpanKey (Vec ℕ)) (noted : AreNoted is_in trace (length trace) m) where
  -- a span with members is noted
  has_key : (s : Span) → IsSession trace s → list_any (eq_by_cmp key_cmp (key_for s)) (tree.keys m) ≡ true
  has_key s its = sym (is_some-lookup (eq_by_cmp key_cmp (key_for s)) m.entries) ∙ by_found (tree.get key_cmp m (key_for s)) refl
    where
      by_found : (found : Option (Vec ℕ)) → tree.get key_cmp m (key_for s) ≡ found → is_some found ≡ true
      by_found None none =
          let empty = sym (noted_places trace m noted s.birth s.span) ∙ ap (λ o. option_map_or (λ (v : Vec ℕ). v.items) o []) none in
          absurd (its.some (no_places (length trace) trace s.birth s.span empty))
      by_found (Some v) some = refl

  pub are_sessions : tree.IsOrdered key_cmp m → (all : List ReadsOfSpan) → AreListed trace (map span_of (tree.keys m)) all
      → AreMembersBySession trace all
  are_sessions ordered all are = record {
    sessions = subst (AreSessionsOf trace) (sym are.spans) (record {
      ascending = AllPairs-filter IsBefore (is_session trace) (map span_of (tree.keys m)) (ascend (tree.keys m) ordered);
      just = λ s. (
        λ among. session_is trace s ((filter_contains (is_session trace) (map span_of (tree.keys m)) s).0 among).1,
        λ its. (filter_contains (is_session trace) (map span_of (tree.keys m)) s).1
            (listed (tree.keys m) s (has_key s its), is_session_of trace s its),
      );
    });
    members = are.members;
  }

-- ---- answers

one_answered : (app : App) (trace : List Entry) (all : List ReadsOfSpan) (answers : List SpanAnswer) (s : ReadsOfSpan) (a : SpanAnswer)
    → AreAnswersFor app trace all answers → a.span ≡ s.span → IsAnswer app trace (members trace a.span.birth a.span.span) a.answer
    → AreAnswersFor app trace (all ++ s ∷ []) (answers ++ a ∷ [])
one_answered app trace all answers s a are same is = record {
  spans = map_push (λ (x : SpanAnswer). x.span) answers a
      ∙ ap (λ (xs : List Span). xs ++ a.span ∷ []) are.spans
      ∙ ap (λ (x : Span). map (λ (y : ReadsOfSpan). y.span) all ++ x ∷ []) same
      ∙ sym (map_push (λ (y : ReadsOfSpan). y.span) all s);
  answered = All-push (λ x. IsAnswer app trace (members trace x.span.birth x.span.span) x.answer) answers a are.answered is;
}

-- the next of some sessions
pub answers_more : (app : App) (trace : List Entry) (all : List ReadsOfSpan) (k : ℕ) (s : ReadsOfSpan) (answers : List SpanAnswer)
    (a : SpanAnswer)
    → k < length all → s ≡ get_or all k s → AreAnswersFor app trace (take k all) answers → a.span ≡ s.span
    → IsAnswer app trace (members trace a.span.birth a.span.span) a.answer → AreAnswersFor app trace (take (k + 1) all) (answers ++ a ∷ [])
answers_more app trace all k s answers a low is are same answered =
    subst (λ (ss : List ReadsOfSpan). AreAnswersFor app trace ss (answers ++ a ∷ []))
    (ap (λ (x : ReadsOfSpan). take k all ++ x ∷ []) is ∙ sym (take_more all k s low))
    (one_answered app trace (take k all) answers s a are same answered)
