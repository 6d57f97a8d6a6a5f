use Rattle.std.proofs.Common.{◌≡◌, bytes_eq, drop}
use Rattle.std.specs.List.{find}
use Rattle.std.specs.Option.{option_map_or}
use Rattle.anti_doctor.proofs.missing.version_among.Given as goal

-- what is found of the rows to come is what is to be found
abbrev pub invariant-loop-row : goal.invariant-loop-row
invariant-loop-row l =
    option_map_or (λ r. r.version) (find (λ r. bytes_eq r.key l.key) (drop l.row-index l.rows)) 0
    ≡ option_map_or (λ r. r.version) (find (λ r. bytes_eq r.key l.key) l.rows) 0
