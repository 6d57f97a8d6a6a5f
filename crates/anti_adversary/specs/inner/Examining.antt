-- What is known while the diagnoses and the answers of a run are gone through, the last first.
use Rattle.std.specs.Prelude.{◌≡◌, Bool, true, false, List, ◌++◌, All, Option, None, IfSome}
use Rattle.anti_kind.specs.declared.entry.Entry.{Entry}
use Rattle.anti_app.specs.declared.app.App.{App}
use Rattle.law_causal.specs.Reads.{reads_of}
use Rattle.anti_order.specs.Answers.{IsAnswer}
use Rattle.anti_order.specs.declared.answer.OrderAnswer.{OrderAnswer}
use Rattle.anti_order.specs.declared.answer.OrderAnswer.TheVariants.{Lossy, Unguarded, Order}
use Rattle.anti_order.specs.declared.answer.SpanAnswer.{SpanAnswer}
use Rattle.anti_doctor.specs.Diagnoses.{AreDiagnosesOf}
use Rattle.anti_doctor.specs.declared.diagnosis.Diagnosis.{Diagnosis}
use Rattle.anti_doctor.specs.declared.diagnosis.Diagnosis.TheVariants.{Sound, Misses}
use Rattle.anti_doctor.specs.declared.diagnosis.SpanDiagnosis.{SpanDiagnosis}
use Rattle.anti_adversary.specs.Verdicts.{IsHint, IsMiss}

-- whether the reads missed something
abbrev pub is_miss : Diagnosis → Bool
is_miss (Sound marks) = false
is_miss (Misses findings) = true

-- these diagnoses are left, and this is one of a span that missed something, where one of the others is
pub record HasExamined (trace : List Entry) (left : List SpanDiagnosis) (first : Option SpanDiagnosis) : Type 0 where
  pub others : List SpanDiagnosis
  pub all : AreDiagnosesOf trace (left ++ others)
  pub missed : IfSome first (IsMiss trace)
  pub nothing : first ≡ None → All (λ d. is_miss d.diagnosis ≡ false) others

-- whether no order is answered
abbrev pub is_barred : OrderAnswer → Bool
is_barred (Lossy mark) = true
is_barred (Unguarded mark) = true
is_barred (Order marks) = false

-- these answers are left, and this is one that is no order, where one was found
pub record HasSifted (app : App) (trace : List Entry) (left : List SpanAnswer) (first : Option SpanAnswer) : Type 0 where
  pub answered : All (λ a. IsAnswer app trace (reads_of trace a.span.birth a.span.span) a.answer) left
  pub barred : IfSome first (IsHint app trace)
