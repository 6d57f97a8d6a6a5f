use Rattle.std.proofs.Common.{◌-◌, length}
use Rattle.anti_work.specs.inner.Firsts.{AreStarting}
use Rattle.anti_work.proofs.sharing.starts.Given as goal

-- what the first workers begin with was made
abbrev pub invariant-loop-alloc : goal.invariant-loop-alloc
invariant-loop-alloc l = AreStarting l.app l.shared l.starts.items l.firsts.items

abbrev pub decreases-loop-alloc : goal.decreases-loop-alloc
decreases-loop-alloc l = l.app.workers - length l.starts.items
