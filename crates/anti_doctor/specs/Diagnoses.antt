-- What is found of reads of a trace: which writes they missed, or an order that explains them; and what this is worth.
use Rattle.std.specs.Prelude.{ℕ, ◌≡◌, ◌≢◌, ◌<◌, Bool, true, List, [], Some, slice_get, map, All, Contains}
use Rattle.anti_ids.specs.Ids.{has_id}
use Rattle.anti_ids.specs.declared.id.WriteId.{WriteId}
use Rattle.anti_kind.specs.declared.actor.Birth.{Birth}
use Rattle.anti_kind.specs.declared.entry.Entry.{Entry}
use Rattle.anti_kind.specs.Replies.{speaks_of}
use Rattle.law_causal.specs.Words.{wrote}
use Rattle.law_causal.specs.Causal.{Before}
use Rattle.law_causal.specs.Reads.{reads_of}
use Rattle.law_serial.specs.Causes.{TellsCauses}
use Rattle.law_serial.specs.Order.{order_by}
use Rattle.law_serial.specs.Serial.{IsSerial, version_shown}
use Rattle.anti_past.specs.Spans.{AreSpansOf}
use Rattle.anti_order.specs.Answers.{AreMarksOf, Explains, mark_at}
use Rattle.anti_doctor.specs.Missed.{AreMissed, Pair}
use Rattle.anti_doctor.specs.declared.diagnosis.Diagnosis.{Diagnosis}
use Rattle.anti_doctor.specs.declared.diagnosis.Diagnosis.TheVariants.{Sound, Misses}
use Rattle.anti_doctor.specs.declared.diagnosis.Finding.{Finding}
use Rattle.anti_doctor.specs.declared.diagnosis.SpanDiagnosis.{SpanDiagnosis}

-- ---- what is found

-- the findings have the marks of these reads and writes
abbrev pub AreFindingsOf : List Entry → List Pair → List Finding → Type 0
AreFindingsOf trace missed findings =
    (map (λ p. mark_at trace p.read) missed ≡ map (λ f. Some f.read) findings)
    × (map (λ p. mark_at trace p.write) missed ≡ map (λ f. Some f.write) findings)

-- Where the reads miss nothing, the order by what is causally before them is told; else what they miss.
abbrev pub IsFound : List Entry → List ℕ → (ℕ → ℕ → Bool) → List Pair → Diagnosis → Type 0
IsFound trace reads past missed (Sound marks) = (missed ≡ []) × AreMarksOf trace (order_by trace past reads) marks.items
IsFound trace reads past missed (Misses findings) = (missed ≢ []) × AreFindingsOf trace missed findings.items

-- the diagnosis of these reads, by a test that tells what is causally before them
pub record IsDiagnosis (trace : List Entry) (reads : List ℕ) (diagnosis : Diagnosis) : Type 0 where
  pub past : ℕ → ℕ → Bool
  pub tells : TellsCauses trace reads past
  pub missed : List Pair
  pub misses : AreMissed trace past reads [] missed
  pub found : IsFound trace reads past missed diagnosis

-- the spans with a read, each with the diagnosis of its reads
pub record AreDiagnosesOf (trace : List Entry) (diagnoses : List SpanDiagnosis) : Type 0 where
  pub spans : AreSpansOf trace (map (λ d. d.span) diagnoses)
  pub diagnosed : All (λ d. IsDiagnosis trace (reads_of trace d.span.birth d.span.span) d.diagnosis) diagnoses

-- ---- what it is worth

-- One of these reads missed a write: this is causally before it, to a key that it speaks of, and of a version above the one that it shows.
pub record IsMissed (trace : List Entry) (reads : List ℕ) (finding : Finding) : Type 0 where
  pub read : ℕ
  pub among : Contains reads read
  pub entry : Entry
  pub there : slice_get trace read ≡ Some entry
  pub read_marked : mark_at trace read ≡ Some finding.read
  pub write : ℕ
  pub written : Entry
  pub stands : slice_get trace write ≡ Some written
  pub write_marked : mark_at trace write ≡ Some finding.write
  pub before : Before trace write read
  pub id : WriteId
  pub wrote : has_id id (wrote written) ≡ true
  pub store : id.store ≡ entry.object
  pub spoken : speaks_of id.key entry.call ≡ true
  pub newer : version_shown entry.reply id.key < id.version

-- A sound diagnosis tells an order that explains the reads. Of other reads no order does, and each finding is a write that one of them
-- missed.
abbrev pub IsRight : List Entry → List ℕ → Diagnosis → Type 0
IsRight trace reads (Sound marks) = Explains trace reads marks.items
IsRight trace reads (Misses findings) =
    (findings.items ≢ []) × All (IsMissed trace reads) findings.items × ((order : List ℕ) → IsSerial trace reads order → ⊥)

-- Each diagnosis of the reads of a span is right.
abbrev pub SpansAreDecided : List Entry → Type 0
SpansAreDecided trace =
    (birth : Birth) (span : ℕ) (diagnosis : Diagnosis) → IsDiagnosis trace (reads_of trace birth span) diagnosis
    → IsRight trace (reads_of trace birth span) diagnosis
