use Rattle.std.proofs.Common.{◌≡◌, drop}
use Rattle.anti_shim.specs.Sights.{has_sight}
use Rattle.anti_shim.proofs.barrier_cursor.Barrier.has.Given as goal

-- none of those before is of the store
abbrev pub invariant-loop-sight : goal.invariant-loop-sight
invariant-loop-sight l = has_sight (drop l.sight-index l.sight-items) l.store ≡ has_sight l.self l.store
