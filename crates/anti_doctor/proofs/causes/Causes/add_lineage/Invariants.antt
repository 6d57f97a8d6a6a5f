use Rattle.std.proofs.Common.{ℕ, List}
use Rattle.anti_doctor.specs.inner.Gathered.{IsReady, Joins, have_kept}
use Rattle.anti_doctor.proofs.causes.Causes.add_lineage.Given as goal

-- where the ids that are left are added too, all are
abbrev pub invariant-loop-id : goal.invariant-loop-id
invariant-loop-id l = record {
  ready : IsReady l.self l.set;
  rest : (all : List ℕ) → Joins l.self.kept.items (have_kept l.self l.writes l.id-iterator) l.set all
      → Joins l.self.kept.items (have_kept l.self l.writes l.lineage) l.fn.set all;
}
