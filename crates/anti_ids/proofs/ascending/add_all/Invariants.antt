use Rattle.std.proofs.Common.{◌≡◌, ◌≤◌, vec_capacity}
use Rattle.anti_ids.specs.Invariants.{IsAscending}
use Rattle.anti_ids.specs.Ids.{with_ids}
use Rattle.anti_ids.proofs.ascending.add_all.Given as goal

-- those that are still to come make what all make
abbrev pub invariant-loop-id : goal.invariant-loop-id
invariant-loop-id l = record {
  ascending : IsAscending l.ids.items;
  rest : with_ids l.id-iterator l.ids.items ≡ with_ids l.initial.id-iterator l.initial.ids.items;
  room : vec_capacity l.initial.ids ≤ vec_capacity l.ids;
}
