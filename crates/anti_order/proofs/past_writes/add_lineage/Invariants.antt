use Rattle.std.proofs.Common.{ℕ, List}
use Rattle.anti_order.specs.inner.PastWrites.{AddsNumbers}
use Rattle.anti_order.proofs.past_writes.add_lineage.Given as goal

-- where the ids that are left are added too, all are
abbrev pub invariant-loop-id : goal.invariant-loop-id
invariant-loop-id l = (all : List ℕ) → AddsNumbers l.writes l.id-iterator l.numbers all → AddsNumbers l.writes l.lineage l.fn.numbers all
