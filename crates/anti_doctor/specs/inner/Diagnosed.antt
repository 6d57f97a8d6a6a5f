-- What is found of the reads of some spans.
use Rattle.std.specs.Prelude.{◌≡◌, List, map, All}
use Rattle.anti_kind.specs.declared.entry.Entry.{Entry}
use Rattle.law_causal.specs.Reads.{reads_of}
use Rattle.anti_past.specs.declared.span_reads.ReadsOfSpan.{ReadsOfSpan}
use Rattle.anti_doctor.specs.Diagnoses.{IsDiagnosis}
use Rattle.anti_doctor.specs.declared.diagnosis.SpanDiagnosis.{SpanDiagnosis}

-- the diagnoses of the reads of some spans, span by span
pub record AreDiagnosesFor (trace : List Entry) (all : List ReadsOfSpan) (diagnoses : List SpanDiagnosis) : Type 0 where
  pub spans : map (λ d. d.span) diagnoses ≡ map (λ s. s.span) all
  pub diagnosed : All (λ d. IsDiagnosis trace (reads_of trace d.span.birth d.span.span) d.diagnosis) diagnoses
