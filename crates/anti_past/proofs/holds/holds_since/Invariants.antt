use Rattle.std.proofs.Common.{◌≡◌, drop}
use Rattle.anti_past.specs.inner.Came.{holds, ids_since}
use Rattle.anti_past.proofs.holds.holds_since.Given as goal

-- the ids of the entries so far are all there
abbrev pub invariant-loop-index : goal.invariant-loop-index
invariant-loop-index l = holds l.lineage (ids_since l.app l.trace (drop l.index-index l.since)) ≡ holds l.lineage (ids_since l.app l.trace l.since)
