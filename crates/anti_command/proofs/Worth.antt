-- What the laws of runs are worth to what is told of an application.
use Rattle.std.proofs.Common.{◌≡◌, List, refl}
use Rattle.std.specs.Prelude.{codes}
use Rattle.anti_kind.specs.declared.entry.Entry.{Entry}
use Rattle.anti_app.specs.declared.app.App.{App}
use Rattle.anti_trace.specs.Legal.{IsLegalTrace}
use Rattle.anti_doctor.specs.Diagnoses.{SpansAreDecided}
use Rattle.anti_doctor.specs.declared.diagnosis.Diagnosis.TheVariants.{Misses}
use Rattle.anti_place.specs.Placements.{placement}
use Rattle.anti_place.specs.declared.placement.Placement.TheVariants.{Yes}
use Rattle.law_placed.specs.Guarded.{AllExplained}
use Rattle.anti_adversary.specs.Runs.{MissesNothing}
use Rattle.anti_adversary.specs.Verdicts.{IsVerdict}
use Rattle.anti_adversary.specs.declared.verdict.Verdict.{Verdict}
use Rattle.anti_adversary.specs.declared.verdict.Verdict.TheVariants.{Placed, Found, Long, Tried}
use Rattle.anti_text.specs.Counterexamples.{numbered_line, verdict_text}
use Rattle.anti_command.specs.Placed.{IsRightFor}

-- reads that an order explains miss nothing
pub misses_nothing : (app : App) (trace : List Entry) → SpansAreDecided trace → AllExplained app trace → MissesNothing trace
misses_nothing app trace decided explained birth span findings found =
    (decided birth span (Misses findings) found).2 _ (explained birth span)

-- what is found in a legal run is right
pub right_for : (app now : App) (verdict : Verdict) → ((trace : List Entry) → IsLegalTrace now trace → SpansAreDecided trace) → IsVerdict app now verdict
    → IsRightFor verdict
right_for app now Placed decided said = tt
right_for app now (Found number shown missed) decided said =
    decided shown.trace said.1.run.legal missed.span.birth missed.span.span missed.diagnosis said.2.diagnosed
right_for app now (Long number entries missed) decided said = tt
right_for app now (Tried runs hint) decided said = tt

-- of a placed application nothing is found
pub none_for : (app now : App) (verdict : Verdict) → IsVerdict app now verdict → placement app ≡ Yes
    → verdict_text now verdict ≡ numbered_line (codes "none ") 0
none_for app now Placed said placed = refl
none_for app now (Found number shown missed) said placed = absurd (said.0 placed)
none_for app now (Long number entries missed) said placed = absurd (said.0 placed)
none_for app now (Tried runs hint) said placed = absurd (said.0 placed)
