use Rattle.std.proofs.Common.{◌≡◌, true, length}
use Rattle.anti_ids.specs.declared.id.WriteId.{WriteId}
use Rattle.anti_ids.specs.Ids.{has_id}
use Rattle.anti_ids.proofs.unions.comes.Given as goal

-- what is still to come was to come
abbrev pub invariant-loop-next : goal.invariant-loop-next
invariant-loop-next l = (i : WriteId) → has_id i l.ids ≡ true → has_id i l.fn.ids ≡ true

abbrev pub decreases-loop-next : goal.decreases-loop-next
decreases-loop-next l = length l.ids
