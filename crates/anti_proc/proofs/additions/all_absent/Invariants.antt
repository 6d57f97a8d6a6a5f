use Rattle.std.proofs.Common.{◌≡◌, ◌==◌, drop}
use Rattle.std.specs.List.{list_all}
use Rattle.anti_proc.proofs.additions.all_absent.Given as goal

-- none of those before has a version
abbrev pub invariant-loop-row : goal.invariant-loop-row
invariant-loop-row l = list_all (λ row. row.version == 0) (drop l.row-index l.rows) ≡ list_all (λ row. row.version == 0) l.rows
