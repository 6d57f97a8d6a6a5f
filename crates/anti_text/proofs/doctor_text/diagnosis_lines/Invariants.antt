use Rattle.std.proofs.Common.{◌≡◌, ◌++◌, take}
use Rattle.std.specs.List.{flat_map}
use Rattle.anti_text.specs.Diagnoses.{diagnosis_line}
use Rattle.anti_text.proofs.doctor_text.diagnosis_lines.Given as goal

-- the spans so far are written
abbrev pub invariant-loop-found : goal.invariant-loop-found
invariant-loop-found l = l.out ≡ l.initial.out ++ flat_map (diagnosis_line l.texts.app.now) (take l.found-index l.diagnoses)
