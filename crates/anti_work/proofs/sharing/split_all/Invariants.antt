use Rattle.std.proofs.Common.{◌-◌, length}
use Rattle.anti_work.specs.inner.Firsts.{AreSplit}
use Rattle.anti_work.proofs.sharing.split_all.Given as goal

-- a pass was split off each of the first ones
abbrev pub invariant-loop-passes : goal.invariant-loop-passes
invariant-loop-passes l = AreSplit l.shared l.fn.firsts.items l.firsts.items l.passes.items

abbrev pub decreases-loop-passes : goal.decreases-loop-passes
decreases-loop-passes l = length l.shared - length l.passes.items
