use Rattle.std.proofs.Common.{◌≡◌, true, length}
use Rattle.anti_ids.specs.declared.id.WriteId.{WriteId}
use Rattle.anti_ids.specs.Ids.{has_id, with_ids}
use Rattle.anti_ids.specs.inner.Held.{held_ids}
use Rattle.anti_ids.proofs.held_ids.HeldIds.has_all.Given as goal

-- those that were looked for are held, and so is what is still to come
abbrev pub invariant-loop-id : goal.invariant-loop-id
invariant-loop-id l = record {
  found : with_ids l.rest (held_ids l.self) ≡ with_ids l.fn.ids (held_ids l.self);
  held : (i : WriteId) → has_id i l.held ≡ true → has_id i (held_ids l.self) ≡ true;
}

abbrev pub decreases-loop-id : goal.decreases-loop-id
decreases-loop-id l = length l.rest
