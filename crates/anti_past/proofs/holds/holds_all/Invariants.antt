use Rattle.std.proofs.Common.{◌≡◌}
use Rattle.anti_past.specs.inner.Came.{IsRear, holds}
use Rattle.anti_past.proofs.holds.holds_all.Given as goal

-- what is left decides, and the rest is still one
abbrev pub invariant-loop-id : goal.invariant-loop-id
invariant-loop-id l = record {
  left : holds l.lineage l.id-iterator ≡ holds l.lineage l.ids;
  rear : IsRear l.lineage l.rest;
}
