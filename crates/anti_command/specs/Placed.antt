-- What is told of an application without playing it, and what this is worth.
use Rattle.std.specs.Prelude.{ℕ, ◌≡◌, ◌↔◌, false, List, Contains, codes}
use Rattle.std.specs.List.{list_any}
use Rattle.anti_kind.specs.declared.entry.Entry.{Entry}
use Rattle.anti_app.specs.declared.app.App.{App}
use Rattle.anti_place.specs.Placements.{placement}
use Rattle.anti_place.specs.Reviews.{fails_there, is_failing, review, superfluous_there}
use Rattle.anti_place.specs.Without.{moved, without}
use Rattle.anti_place.specs.declared.placement.Placement.TheVariants.{Yes}
use Rattle.anti_place.specs.declared.reason.Reason.{Reason}
use Rattle.anti_trace.specs.Legal.{IsLegalTrace}
use Rattle.law_causal.specs.Carried.{IsLossless}
use Rattle.law_causal.specs.Reads.{reads_of}
use Rattle.anti_doctor.specs.Diagnoses.{IsRight}
use Rattle.anti_adversary.specs.Runs.{MissesNothing}
use Rattle.anti_adversary.specs.Verdicts.{IsVerdict}
use Rattle.anti_adversary.specs.declared.verdict.Verdict.{Verdict}
use Rattle.anti_adversary.specs.declared.verdict.Verdict.TheVariants.{Found}
use Rattle.law_placed.specs.Guarded.{AllExplained, AllSettled}
use Rattle.anti_text.specs.Counterexamples.{numbered_line, verdict_text}
use Rattle.anti_text.specs.Placements.{placement_line}
use Rattle.anti_text.specs.Reviews.{review_text}

-- no entry loses an id, each read is settled, the order of each span's reads explains them, and they miss nothing
pub record KeepsAll (app : App) (trace : List Entry) : Type 0 where
  pub lossless : IsLossless app trace
  pub settled : AllSettled app trace
  pub explained : AllExplained app trace
  pub sound : MissesNothing trace

-- the text tells the placement; where the application is placed, each of its legal traces keeps all
pub record TellsPlacement (app : App) (text : List ℕ) : Type 0 where
  pub line : text ≡ placement_line app (placement app)
  pub worth : placement app ≡ Yes → (trace : List Entry) → IsLegalTrace app trace → KeepsAll app trace

-- The text tells the review. The application is placed just where none of its lines fails; and a superfluous barrier whose line does not fail
-- can go: without it the placement is what it was, but for the numbers of the lines behind it.
pub record TellsReview (app : App) (text : List ℕ) : Type 0 where
  pub lines : text ≡ review_text app (review app)
  pub placed : (placement app ≡ Yes) ↔ (list_any is_failing (review app) ≡ false)
  pub can_go : (service handler line : ℕ) → Contains (review app) (superfluous_there service handler line)
      → ((reason : Reason) → Contains (review app) (fails_there service handler (record { line = line; reason = reason })) → ⊥)
      → placement (without service handler line app) ≡ moved service handler line (placement app)

-- What is found is right: one of the reads missed each of these writes, and no order explains the reads.
abbrev pub IsRightFor : Verdict → Type 0
IsRightFor (Found number shown missed) = IsRight shown.trace (reads_of shown.trace missed.span.birth missed.span.span) missed.diagnosis
IsRightFor verdict = Unit {0}

-- The text tells what a search says of the application, which it gives back: as it was, or with the choices that the text tells. Where the
-- application is placed it is `none 0`, and no read of any of its legal traces misses a write.
pub record TellsCounterexample (app : App) (text : List ℕ) : Type 0 where
  pub now : App
  pub verdict : Verdict
  pub said : IsVerdict app now verdict
  pub right : IsRightFor verdict
  pub text_is : text ≡ verdict_text now verdict
  pub none : placement app ≡ Yes → text ≡ numbered_line (codes "none ") 0
  pub worth : placement app ≡ Yes → (trace : List Entry) → IsLegalTrace app trace → MissesNothing trace
