use Rattle.std.proofs.Common.{◌≡◌, ◌++◌, length, map, reverse}
use Rattle.anti_work.specs.inner.Firsts.{given}
use Rattle.anti_work.proofs.running.all_given.Given as goal

-- what is left, the last worker's first, and before it what was given
abbrev pub invariant-loop-back : goal.invariant-loop-back
invariant-loop-back l = map given l.all.items ++ reverse l.results.items ≡ l.fn.results.items

abbrev pub decreases-loop-back : goal.decreases-loop-back
decreases-loop-back l = length l.results.items
