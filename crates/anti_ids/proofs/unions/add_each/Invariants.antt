use Rattle.std.proofs.Common.{◌≡◌, ◌≤◌}
use Rattle.anti_ids.specs.Each.{Each}
use Rattle.anti_ids.specs.Invariants.{IsLineage}
use Rattle.anti_ids.specs.Ids.{with_ids}
use Rattle.anti_ids.proofs.unions.add_each.Given as goal

-- those that are still to come make what all make
abbrev pub invariant-loop-id : goal.invariant-loop-id
invariant-loop-id l = record {
  lineage : IsLineage l.block;
  written : Each (λ i. 1 ≤ i.version) l.id-iterator;
  rest : with_ids l.id-iterator l.block ≡ with_ids l.initial.id-iterator l.initial.block;
}
