use Rattle.std.proofs.Common.{length}
use Rattle.anti_work.specs.inner.Closing.{AreClosing}
use Rattle.anti_work.proofs.gathering.close_each.Given as goal

-- the objects before those that are left were closed
abbrev pub invariant-loop-object : goal.invariant-loop-object
invariant-loop-object l = AreClosing l.fn.firsts.items l.shared.items l.firsts.items l.kepts.items

abbrev pub decreases-loop-object : goal.decreases-loop-object
decreases-loop-object l = length l.shared.items
