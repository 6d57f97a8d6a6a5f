use Rattle.std.proofs.Common.{◌≡◌, map, take}
use Rattle.anti_shared.specs.Passes.{first_pass}
use Rattle.anti_live.specs.Clients.{id_of_shared}
use Rattle.anti_live.specs.inner.Lives.{AreShared}
use Rattle.anti_live.proofs.live.share_all.Given as goal

-- the stores so far are shared, and the passes are the first ones
abbrev pub invariant-loop-number : goal.invariant-loop-number
invariant-loop-number l = AreShared (take l.number l.stores) l.shareds.items × (l.passes.items ≡ map (λ s. first_pass (id_of_shared s)) l.shareds.items)
