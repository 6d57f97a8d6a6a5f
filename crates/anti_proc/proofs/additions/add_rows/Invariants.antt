use Rattle.std.proofs.Common.{◌≡◌, drop}
use Rattle.anti_ids.specs.Ids.{with_ids}
use Rattle.anti_proc.specs.Local.{rows_ids}
use Rattle.anti_proc.proofs.additions.add_rows.Given as goal

-- the ids of the rows that are left are to be added
abbrev pub invariant-loop-row : goal.invariant-loop-row
invariant-loop-row l = with_ids (rows_ids l.store (drop l.row-index l.rows)) l.carried ≡ with_ids (rows_ids l.store l.rows) l.initial.carried
