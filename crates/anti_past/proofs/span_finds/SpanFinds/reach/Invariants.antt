use Rattle.std.proofs.Common.{◌≡◌, ◌+◌, ◌-◌, length}
use Rattle.anti_ids.specs.declared.id.WriteId.{WriteId}
use Rattle.anti_past.specs.inner.Found.{has_in}
use Rattle.anti_past.proofs.span_finds.SpanFinds.reach.Given as goal

-- an empty list more changes nothing
abbrev pub invariant-loop-alloc : goal.invariant-loop-alloc
invariant-loop-alloc l = (w : WriteId) → has_in l.self w ≡ has_in l.initial.self w

abbrev pub decreases-loop-alloc : goal.decreases-loop-alloc
decreases-loop-alloc l = l.store + 1 - length l.self.stores.items
