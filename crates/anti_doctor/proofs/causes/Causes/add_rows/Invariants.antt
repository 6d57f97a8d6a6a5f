use Rattle.std.proofs.Common.{ℕ, List, drop}
use Rattle.anti_doctor.specs.inner.Gathered.{IsReady, Joins, have_kept, ids_of_rows}
use Rattle.anti_doctor.proofs.causes.Causes.add_rows.Given as goal

-- where the writes of the rows that are left are added too, all are
abbrev pub invariant-loop-row : goal.invariant-loop-row
invariant-loop-row l = record {
  ready : IsReady l.self l.set;
  rest : (all : List ℕ) → Joins l.self.kept.items (have_kept l.self l.writes (ids_of_rows l.store (drop l.row-index l.rows))) l.set all
      → Joins l.self.kept.items (have_kept l.self l.writes (ids_of_rows l.store l.rows)) l.fn.set all;
}
