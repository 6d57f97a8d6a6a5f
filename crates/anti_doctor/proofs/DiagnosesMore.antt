-- Diagnoses of spans, where one more is examined.
use Rattle.std.proofs.Common.{◌≡◌, ℕ, ◌+◌, ◌<◌, List, [], ◌∷◌, ◌++◌, length, get_or, map, take, sym, ap, ◌∙◌, subst}
use Rattle.std.proofs.lemmas.List.{map_push, take_more}
use Rattle.std.proofs.lemmas.List.Elements.{All-push}
use Rattle.anti_kind.specs.declared.entry.Entry.{Entry}
use Rattle.law_causal.specs.Reads.{reads_of}
use Rattle.anti_past.specs.declared.span_reads.ReadsOfSpan.{ReadsOfSpan}
use Rattle.anti_past.specs.declared.span_reads.Span.{Span}
use Rattle.anti_doctor.specs.Diagnoses.{IsDiagnosis}
use Rattle.anti_doctor.specs.declared.diagnosis.SpanDiagnosis.{SpanDiagnosis}
use Rattle.anti_doctor.specs.inner.Diagnosed.{AreDiagnosesFor}

one_more : (trace : List Entry) (spans : List ReadsOfSpan) (diagnoses : List SpanDiagnosis) (s : ReadsOfSpan) (d : SpanDiagnosis)
    → AreDiagnosesFor trace spans diagnoses → d.span ≡ s.span → IsDiagnosis trace (reads_of trace d.span.birth d.span.span) d.diagnosis
    → AreDiagnosesFor trace (spans ++ s ∷ []) (diagnoses ++ d ∷ [])
one_more trace spans diagnoses s d are same is = record {
  spans = map_push (λ (x : SpanDiagnosis). x.span) diagnoses d
      ∙ ap (λ (xs : List Span). xs ++ d.span ∷ []) are.spans
      ∙ ap (λ (x : Span). map (λ (y : ReadsOfSpan). y.span) spans ++ x ∷ []) same
      ∙ sym (map_push (λ (y : ReadsOfSpan). y.span) spans s);
  diagnosed = All-push (λ x. IsDiagnosis trace (reads_of trace x.span.birth x.span.span) x.diagnosis) diagnoses d are.diagnosed is;
}

-- the next of some spans
pub diagnoses_more : (trace : List Entry) (spans : List ReadsOfSpan) (k : ℕ) (s : ReadsOfSpan) (diagnoses : List SpanDiagnosis) (d : SpanDiagnosis)
    → k < length spans → s ≡ get_or spans k s → AreDiagnosesFor trace (take k spans) diagnoses → d.span ≡ s.span
    → IsDiagnosis trace (reads_of trace d.span.birth d.span.span) d.diagnosis → AreDiagnosesFor trace (take (k + 1) spans) (diagnoses ++ d ∷ [])
diagnoses_more trace spans k s diagnoses d low is are same examined =
    subst (λ (ss : List ReadsOfSpan). AreDiagnosesFor trace ss (diagnoses ++ d ∷ []))
    (ap (λ (x : ReadsOfSpan). take k spans ++ x ∷ []) is ∙ sym (take_more spans k s low))
    (one_more trace (take k spans) diagnoses s d are same examined)
