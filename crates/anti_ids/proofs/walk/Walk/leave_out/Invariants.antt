use Rattle.std.proofs.Common.{◌≡◌, ◌++◌, length, take, drop}
use Rattle.anti_ids.specs.inner.Parts.{joined}
use Rattle.anti_ids.proofs.walk.Walk.leave_out.Given as goal

-- what is still to be left out of what is still to come
abbrev pub invariant-loop-self : goal.invariant-loop-self
invariant-loop-self l = drop l.more (l.self-inside.part.now ++ take l.self-inside.left (joined l.self-inside.parts.now)) ≡ drop l.fn.count l.fn.self

abbrev pub decreases-loop-self : goal.decreases-loop-self
decreases-loop-self l = length l.self-inside.parts.now
