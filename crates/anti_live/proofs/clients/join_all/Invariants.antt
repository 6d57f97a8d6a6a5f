use Rattle.std.proofs.Common.{length}
use Rattle.anti_live.specs.inner.Joining.{AreJoining}
use Rattle.anti_live.proofs.clients.join_all.Given as goal

-- the passes behind those that are left were joined
abbrev pub invariant-loop-pass : goal.invariant-loop-pass
invariant-loop-pass l = AreJoining l.fn.into.items l.fn.from.items l.from.items l.into.items

abbrev pub decreases-loop-pass : goal.decreases-loop-pass
decreases-loop-pass l = length l.from.items
