-- Answers of spans, where one more is answered.
use Rattle.std.proofs.Common.{◌≡◌, ℕ, ◌+◌, ◌<◌, List, [], ◌∷◌, ◌++◌, length, get_or, map, take, sym, ap, ◌∙◌, subst}
use Rattle.std.proofs.lemmas.List.{map_push, take_more}
use Rattle.std.proofs.lemmas.List.Elements.{All-push}
use Rattle.anti_kind.specs.declared.entry.Entry.{Entry}
use Rattle.anti_app.specs.declared.app.App.{App}
use Rattle.law_causal.specs.Reads.{reads_of}
use Rattle.anti_past.specs.declared.span_reads.ReadsOfSpan.{ReadsOfSpan}
use Rattle.anti_past.specs.declared.span_reads.Span.{Span}
use Rattle.anti_order.specs.Answers.{IsAnswer}
use Rattle.anti_order.specs.declared.answer.SpanAnswer.{SpanAnswer}
use Rattle.anti_order.specs.inner.Grounds.{AreAnswersFor}

one_more : (app : App) (trace : List Entry) (spans : List ReadsOfSpan) (answers : List SpanAnswer) (s : ReadsOfSpan) (a : SpanAnswer)
    → AreAnswersFor app trace spans answers → a.span ≡ s.span → IsAnswer app trace (reads_of trace a.span.birth a.span.span) a.answer
    → AreAnswersFor app trace (spans ++ s ∷ []) (answers ++ a ∷ [])
one_more app trace spans answers s a are same is = record {
  spans = map_push (λ (x : SpanAnswer). x.span) answers a
      ∙ ap (λ (xs : List Span). xs ++ a.span ∷ []) are.spans
      ∙ ap (λ (x : Span). map (λ (y : ReadsOfSpan). y.span) spans ++ x ∷ []) same
      ∙ sym (map_push (λ (y : ReadsOfSpan). y.span) spans s);
  answered = All-push (λ x. IsAnswer app trace (reads_of trace x.span.birth x.span.span) x.answer) answers a are.answered is;
}

-- the next of some spans
pub answers_more : (app : App) (trace : List Entry) (spans : List ReadsOfSpan) (k : ℕ) (s : ReadsOfSpan) (answers : List SpanAnswer) (a : SpanAnswer)
    → k < length spans → s ≡ get_or spans k s → AreAnswersFor app trace (take k spans) answers → a.span ≡ s.span
    → IsAnswer app trace (reads_of trace a.span.birth a.span.span) a.answer → AreAnswersFor app trace (take (k + 1) spans) (answers ++ a ∷ [])
answers_more app trace spans k s answers a low is are same answered =
    subst (λ (ss : List ReadsOfSpan). AreAnswersFor app trace ss (answers ++ a ∷ []))
    (ap (λ (x : ReadsOfSpan). take k spans ++ x ∷ []) is ∙ sym (take_more spans k s low))
    (one_more app trace (take k spans) answers s a are same answered)
