use Rattle.std.proofs.Common.{◌≡◌, drop}
use Rattle.std.specs.List.{list_all}
use Rattle.anti_proc.specs.Stated.{has_stores}
use Rattle.anti_proc.proofs.foreign.have_stores.Given as goal

-- the rows before have only ids of the stores
abbrev pub invariant-loop-row : goal.invariant-loop-row
invariant-loop-row l = list_all (λ row. has_stores l.app row.lineage) (drop l.row-index l.rows) ≡ list_all (λ row. has_stores l.app row.lineage) l.rows
