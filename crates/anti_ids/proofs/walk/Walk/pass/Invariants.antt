use Rattle.std.proofs.Common.{◌<◌, ◌++◌, take, length}
use Rattle.anti_ids.specs.inner.Parts.{joined}
use Rattle.anti_ids.specs.inner.Stores.{Passed}
use Rattle.anti_ids.proofs.walk.Walk.pass.Given as goal

abbrev pub invariant-loop-count : goal.invariant-loop-count
invariant-loop-count l = Passed (λ i. i.store < l.bound) l.fn.self (l.self-inside.part.now ++ take l.self-inside.left (joined l.self-inside.parts.now)) l.count

abbrev pub decreases-loop-count : goal.decreases-loop-count
decreases-loop-count l = length l.self-inside.parts.now
