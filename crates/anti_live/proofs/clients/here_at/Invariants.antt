use Rattle.std.proofs.Common.{◌≡◌, ◌++◌, drop}
use Rattle.anti_live.specs.Stores.{here_from, here_of}
use Rattle.anti_live.proofs.clients.here_at.Given as goal

-- the stores from this one on are behind those that were found
abbrev pub invariant-loop-number : goal.invariant-loop-number
invariant-loop-number l = l.here.items ++ here_from l.region l.number (drop l.number l.stores) ≡ here_of l.region l.stores
