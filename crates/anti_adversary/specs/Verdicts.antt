-- What a search for a run says in which reads miss writes.
use Rattle.std.specs.Prelude.{ℕ, ◌≡◌, List, length, All, Option, None, Some}
use Rattle.anti_ids.specs.List.{Listed}
use Rattle.anti_kind.specs.declared.entry.Entry.{Entry}
use Rattle.anti_app.specs.declared.app.App.{App}
use Rattle.anti_app.specs.declared.app.Choice.{Choice}
use Rattle.law_causal.specs.Reads.{reads_of}
use Rattle.anti_order.specs.Answers.{IsAnswer}
use Rattle.anti_order.specs.declared.answer.OrderAnswer.{OrderAnswer}
use Rattle.anti_order.specs.declared.answer.OrderAnswer.TheVariants.{Order}
use Rattle.anti_order.specs.declared.answer.SpanAnswer.{SpanAnswer}
use Rattle.anti_doctor.specs.Diagnoses.{IsDiagnosis}
use Rattle.anti_doctor.specs.declared.diagnosis.Diagnosis.TheVariants.{Misses}
use Rattle.anti_doctor.specs.declared.diagnosis.Finding.{Finding}
use Rattle.anti_doctor.specs.declared.diagnosis.SpanDiagnosis.{SpanDiagnosis}
use Rattle.anti_place.specs.Placements.{placement}
use Rattle.anti_place.specs.declared.placement.Placement.TheVariants.{Yes}
use Rattle.anti_adversary.specs.Runs.{IsPlayedWhole, IsShown, MissesNothing, with_choices}
use Rattle.anti_adversary.specs.declared.verdict.Shown.{Shown}
use Rattle.anti_adversary.specs.declared.verdict.Hint.{Hint}
use Rattle.anti_adversary.specs.declared.verdict.Verdict.{Verdict}
use Rattle.anti_adversary.specs.declared.verdict.Verdict.TheVariants.{Placed, Found, Long, Tried}

-- these are the choices of the application, which replace its own, and this is their run
pub record IsShownOf (app now : App) (shown : Shown) : Type 0 where
  pub choices : Listed Choice
  pub replaced : now ≡ with_choices choices app
  pub run : IsShown now shown.marks.items shown.trace

-- the reads of this span of the trace missed just the writes that its diagnosis names
pub record IsMiss (trace : List Entry) (missed : SpanDiagnosis) : Type 0 where
  pub findings : Listed Finding
  pub misses : missed.diagnosis ≡ Misses findings
  pub diagnosed : IsDiagnosis trace (reads_of trace missed.span.birth missed.span.span) missed.diagnosis

-- no order is answered for the reads of a span of the trace
abbrev pub IsBarred : OrderAnswer → Type 0
IsBarred (Order marks) = ⊥
IsBarred answer = Unit {0}

pub record IsHint (app : App) (trace : List Entry) (answer : SpanAnswer) : Type 0 where
  pub barred : IsBarred answer.answer
  pub answered : IsAnswer app trace (reads_of trace answer.span.birth answer.span.span) answer.answer

-- a run was played whole, and no read of it misses a write
pub record IsTriedInVain (app : App) (choices : List Choice) : Type 0 where
  pub trace : List Entry
  pub whole : IsPlayedWhole app choices trace
  pub sound : MissesNothing trace

-- so many runs were played whole, and no read of any of them misses a write
pub record AreTriedInVain (app : App) (count : ℕ) : Type 0 where
  pub tries : List (List Choice)
  pub count_is : length tries ≡ count
  pub each : All (IsTriedInVain app) tries

-- a run with so many entries was played whole, and the reads of one of its spans missed these writes
pub record IsLong (app : App) (entries : ℕ) (missed : SpanDiagnosis) : Type 0 where
  pub choices : List Choice
  pub trace : List Entry
  pub whole : IsPlayedWhole app choices trace
  pub entries_are : length trace ≡ entries
  pub found : IsMiss trace missed

-- where there is a hint, its choices replace those of the application
abbrev pub IsHintOf : App → App → Option Hint → Type 0
IsHintOf app now None = now ≡ app
IsHintOf app now (Some hint) = IsShownOf app now hint.shown × IsHint now hint.shown.trace hint.answer

-- What is said of an application, which is given back: with the choices of the run that is shown, or as it was.
abbrev pub IsVerdict : App → App → Verdict → Type 0
IsVerdict app now Placed = (placement app ≡ Yes) × (now ≡ app)
IsVerdict app now (Found number shown missed) = (placement app ≡ Yes → ⊥) × IsShownOf app now shown × IsMiss shown.trace missed
IsVerdict app now (Long number entries missed) = (placement app ≡ Yes → ⊥) × IsLong app entries missed × (now ≡ app)
IsVerdict app now (Tried runs hint) = (placement app ≡ Yes → ⊥) × AreTriedInVain app runs × IsHintOf app now hint
