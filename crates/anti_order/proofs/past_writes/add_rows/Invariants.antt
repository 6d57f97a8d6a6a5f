use Rattle.std.proofs.Common.{ℕ, List, drop}
use Rattle.anti_proc.specs.Local.{rows_ids}
use Rattle.anti_order.specs.inner.PastWrites.{AddsNumbers}
use Rattle.anti_order.proofs.past_writes.add_rows.Given as goal

-- where the ids of the rows that are left are added too, all are
abbrev pub invariant-loop-row : goal.invariant-loop-row
invariant-loop-row l =
    (all : List ℕ) → AddsNumbers l.writes (rows_ids l.store (drop l.row-index l.rows)) l.numbers all
    → AddsNumbers l.writes (rows_ids l.store l.rows) l.fn.numbers all
