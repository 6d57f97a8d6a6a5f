use Rattle.std.proofs.Common.{◌≡◌, ◌+◌, ◌≤◌, not, length}
use Rattle.std.specs.List.{filter}
use Rattle.anti_ids.specs.declared.limits.TheConstants.{MOST_IDS}
use Rattle.anti_ids.specs.Ids.{has_id}
use Rattle.anti_ids.specs.inner.Held.{held_ids}
use Rattle.anti_ids.proofs.held_ids.HeldIds.count_new.Given as goal

-- those that are counted, and the new ones of those that are still to come, are all that are new
abbrev pub invariant-loop-id : goal.invariant-loop-id
invariant-loop-id l = record {
  counted : l.count + length (filter (λ i. not (has_id i (held_ids l.self))) l.id-iterator) ≡ length (filter (λ i. not (has_id i (held_ids l.self))) l.initial.id-iterator);
  within : l.count + length l.id-iterator ≤ MOST_IDS;
}
