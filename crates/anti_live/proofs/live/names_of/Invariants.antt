use Rattle.std.proofs.Common.{◌≡◌, take}
use Rattle.anti_live.specs.Headers.{names_of}
use Rattle.anti_live.proofs.live.names_of.Given as goal

-- the names of the stores so far
abbrev pub invariant-loop-store : goal.invariant-loop-store
invariant-loop-store l = l.names.items ≡ names_of (take l.store-index l.stores)
