use Rattle.std.proofs.Common.{◌≡◌, ◌++◌, take}
use Rattle.std.specs.List.{flat_map}
use Rattle.anti_text.specs.Diagnoses.{spaced_pair}
use Rattle.anti_text.proofs.doctor_text.pairs.Given as goal

-- the findings so far are written
abbrev pub invariant-loop-finding : goal.invariant-loop-finding
invariant-loop-finding l = l.out ≡ l.initial.out ++ flat_map (spaced_pair l.app) (take l.finding-index l.findings)
