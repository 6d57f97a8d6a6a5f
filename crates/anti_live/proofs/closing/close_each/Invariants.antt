use Rattle.std.proofs.Common.{length}
use Rattle.anti_live.specs.inner.Closing.{AreClosing}
use Rattle.anti_live.proofs.closing.close_each.Given as goal

-- the objects before those that are left were closed
abbrev pub invariant-loop-shared : goal.invariant-loop-shared
invariant-loop-shared l = AreClosing l.fn.passes.items l.shareds.items l.passes.items l.kepts

abbrev pub decreases-loop-shared : goal.decreases-loop-shared
decreases-loop-shared l = length l.shareds.items
