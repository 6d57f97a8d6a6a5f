use Rattle.std.proofs.Common.{length}
use Rattle.anti_work.specs.inner.Joining.{AreJoining}
use Rattle.anti_work.proofs.gathering.join_all.Given as goal

-- the passes of the workers before those that are left were joined
abbrev pub invariant-loop-done : goal.invariant-loop-done
invariant-loop-done l = AreJoining l.shared l.fn.all.items l.all.items l.firsts.items

abbrev pub decreases-loop-done : goal.decreases-loop-done
decreases-loop-done l = length l.all.items
