-- What a diagnosis of any reads is worth of which each is causally before the next.
use Rattle.std.specs.Prelude.{ℕ, List}
use Rattle.anti_kind.specs.declared.entry.Entry.{Entry}
use Rattle.law_serial.specs.Causes.{IsChain}
use Rattle.law_serial.specs.Chains.{AreReads}
use Rattle.anti_doctor.specs.Diagnoses.{IsDiagnosis, IsRight}
use Rattle.anti_doctor.specs.declared.diagnosis.Diagnosis.{Diagnosis}

-- Each diagnosis of reads of which each is causally before the next is right.
abbrev pub ChainsAreDecided : List Entry → Type 0
ChainsAreDecided trace =
    (reads : List ℕ) (diagnosis : Diagnosis) → AreReads trace reads → IsChain trace reads → IsDiagnosis trace reads diagnosis
    → IsRight trace reads diagnosis
