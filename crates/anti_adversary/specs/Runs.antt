-- Runs of choices that stand in no document.
use Rattle.std.specs.Prelude.{ℕ, ◌≡◌, ◌≤◌, List, [], ◌∷◌, length, Some}
use Rattle.anti_ids.specs.declared.limits.TheConstants.{MOST_CHOICES}
use Rattle.anti_kind.specs.declared.actor.Birth.{Birth}
use Rattle.anti_kind.specs.declared.entry.Entry.{Entry}
use Rattle.anti_app.specs.declared.app.App.{App}
use Rattle.anti_app.specs.declared.app.Choice.{Choice}
use Rattle.anti_ids.specs.List.{Listed}
use Rattle.anti_trace.specs.Legal.{IsLegalTrace}
use Rattle.anti_trace.specs.Traces.{put}
use Rattle.anti_trace.specs.declared.mark.Mark.{Mark}
use Rattle.anti_past.specs.Losses.{mark_of}
use Rattle.anti_play.specs.Complete.{IsComplete}
use Rattle.anti_play.specs.Schedule.{Run, chosen, run_from, trace_of, waits_of}
use Rattle.law_causal.specs.Reads.{reads_of}
use Rattle.anti_doctor.specs.Diagnoses.{IsDiagnosis}
use Rattle.anti_doctor.specs.declared.diagnosis.Diagnosis.TheVariants.{Misses}
use Rattle.anti_doctor.specs.declared.diagnosis.Finding.{Finding}

-- ---- a run that is printed

-- the application with these choices in the place of its own
abbrev pub with_choices : Listed Choice → App → App
with_choices choices app = record app { choices = choices }

-- Behind a trace each of the choices makes an entry; these are the marks of the entries, and this is the trace behind the last.
abbrev pub MakesMarks : App → List Entry → List Choice → List Mark → List Entry → Type 0
MakesMarks app trace [] marks after = (marks ≡ []) × (after ≡ trace)
MakesMarks app trace (choice ∷ choices) marks after =
    (e : Entry) × (rest : List Mark) × (chosen app trace choice ≡ Some e) × (marks ≡ mark_of e ∷ rest) × MakesMarks app (put e trace) choices rest after

-- The application states no more choices than a document may. Each of them makes an entry, so that none is a wait; these are the marks of the
-- entries, and this is the trace of the run, a legal one.
pub record IsShown (app : App) (marks : List Mark) (trace : List Entry) : Type 0 where
  pub few : length app.choices.items ≤ MOST_CHOICES
  pub made : MakesMarks app [] app.choices.items marks trace
  pub trace_is : trace ≡ trace_of app
  pub none_waits : waits_of app ≡ []
  pub legal : IsLegalTrace app trace

-- ---- a run that was tried

-- the run of some choices of an application, whatever its own are
abbrev pub run_of : App → List Choice → Run
run_of app choices = run_from app (record { trace = []; waits = [] }) 1 choices

-- None of the choices is a wait, and their run is a legal one in which nothing is left to make.
pub record IsPlayedWhole (app : App) (choices : List Choice) (trace : List Entry) : Type 0 where
  pub run : run_of app choices ≡ record { trace = trace; waits = [] }
  pub legal : IsLegalTrace app trace
  pub complete : IsComplete app trace

-- ---- what reads missed

-- no diagnosis of the reads of a span names a write that they missed
abbrev pub MissesNothing : List Entry → Type 0
MissesNothing trace = (birth : Birth) (span : ℕ) (findings : Listed Finding) → IsDiagnosis trace (reads_of trace birth span) (Misses findings) → ⊥
