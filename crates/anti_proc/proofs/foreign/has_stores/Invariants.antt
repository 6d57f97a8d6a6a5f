use Rattle.std.proofs.Common.{◌≡◌}
use Rattle.anti_proc.specs.Stated.{has_stores}
use Rattle.anti_proc.proofs.foreign.has_stores.Given as goal

abbrev pub invariant-loop-id : goal.invariant-loop-id
invariant-loop-id l = has_stores l.app l.id-iterator ≡ has_stores l.app l.lineage
