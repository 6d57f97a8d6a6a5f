-- What the reads of the spans of a run missed, as text.
use Rattle.std.specs.Prelude.{ℕ, ◌≡◌, List, ◌++◌, length, codes, decimal}
use Rattle.std.specs.List.{flat_map}
use Rattle.anti_kind.specs.declared.entry.Entry.{Entry}
use Rattle.anti_app.specs.declared.app.App.{App}
use Rattle.anti_doctor.specs.Diagnoses.{AreDiagnosesOf}
use Rattle.anti_doctor.specs.declared.diagnosis.Diagnosis.{Diagnosis}
use Rattle.anti_doctor.specs.declared.diagnosis.Diagnosis.TheVariants.{Sound, Misses}
use Rattle.anti_doctor.specs.declared.diagnosis.Finding.{Finding}
use Rattle.anti_doctor.specs.declared.diagnosis.SpanDiagnosis.{SpanDiagnosis}
use Rattle.anti_text.specs.Spans.{span_name, spaced_mark}
use Rattle.anti_text.specs.Words.{mark_text}

-- a read and a write that it missed, behind a space, as ` posts.2:posts.1`
abbrev pub spaced_pair : App → Finding → List ℕ
spaced_pair app f =
    codes " " ++ mark_text app f.read.object f.read.place ++ codes ":" ++ mark_text app f.write.object f.write.place

-- an order that explains the reads, or what they missed
abbrev pub diagnosis_text : App → Diagnosis → List ℕ
diagnosis_text app (Sound marks) = codes "sound" ++ flat_map (spaced_mark app) marks.items
diagnosis_text app (Misses findings) = codes "misses" ++ flat_map (spaced_pair app) findings.items

-- a span with the diagnosis of its reads, as `span w.1/1 sound s.1 s.4`
abbrev pub diagnosis_line : App → SpanDiagnosis → List ℕ
diagnosis_line app d = codes "span " ++ span_name app d.span ++ codes " " ++ diagnosis_text app d.diagnosis ++ codes "\n"

-- a line for each span with a read, and last how many entries there are
abbrev pub diagnoses_text : App → ℕ → List SpanDiagnosis → List ℕ
diagnoses_text app entries diagnoses =
    codes "doctor 1\n" ++ flat_map (diagnosis_line app) diagnoses ++ codes "end " ++ decimal entries ++ codes "\n"

-- the bytes print the diagnoses of a run of the application, with this trace
pub record PrintsDiagnoses (app : App) (trace : List Entry) (bytes : List ℕ) : Type 0 where
  pub diagnoses : List SpanDiagnosis
  pub diagnosed : AreDiagnosesOf trace diagnoses
  pub text : bytes ≡ diagnoses_text app (length trace) diagnoses
