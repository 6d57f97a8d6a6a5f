use Rattle.std.proofs.Common.{length}
use Rattle.anti_work.specs.inner.Firsts.{AreSharing}
use Rattle.anti_work.proofs.sharing.share.Given as goal

-- the objects behind those that are left were shared
abbrev pub invariant-loop-object : goal.invariant-loop-object
invariant-loop-object l = AreSharing l.app l.left.items l.shared.items l.firsts.items

abbrev pub decreases-loop-object : goal.decreases-loop-object
decreases-loop-object l = length l.left.items
