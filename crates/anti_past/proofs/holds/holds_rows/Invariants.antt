use Rattle.std.proofs.Common.{◌≡◌, drop}
use Rattle.std.specs.List.{list_all}
use Rattle.anti_proc.specs.Local.{row_ids}
use Rattle.anti_past.specs.inner.Came.{holds}
use Rattle.anti_past.proofs.holds.holds_rows.Given as goal

-- what is left decides
abbrev pub invariant-loop-row : goal.invariant-loop-row
invariant-loop-row l =
    list_all (λ row. holds l.lineage (row_ids l.store row)) (drop l.row-index l.rows) ≡ list_all (λ row. holds l.lineage (row_ids l.store row)) l.rows
