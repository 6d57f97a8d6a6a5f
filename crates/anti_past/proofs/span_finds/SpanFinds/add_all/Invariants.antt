use Rattle.std.proofs.Common.{◌≡◌, ◌||◌}
use Rattle.anti_ids.specs.Ids.{has_id}
use Rattle.anti_ids.specs.declared.id.WriteId.{WriteId}
use Rattle.anti_past.specs.inner.Found.{has_in}
use Rattle.anti_past.proofs.span_finds.SpanFinds.add_all.Given as goal

-- what was found, and what is left
abbrev pub invariant-loop-id : goal.invariant-loop-id
invariant-loop-id l = (w : WriteId) → (has_in l.self w || has_id w l.id-iterator) ≡ (has_in l.initial.self w || has_id w l.ids)
