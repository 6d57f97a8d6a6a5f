use Rattle.std.proofs.Common.{◌≡◌, ◌++◌, take, length}
use Rattle.anti_ids.specs.inner.Parts.{joined}
use Rattle.anti_ids.proofs.walk.Walk.take_up.Given as goal

-- the same are still to come
abbrev pub invariant-loop-self : goal.invariant-loop-self
invariant-loop-self l = l.self-inside.part.now ++ take l.self-inside.left (joined l.self-inside.parts.now) ≡ l.fn.self

abbrev pub decreases-loop-self : goal.decreases-loop-self
decreases-loop-self l = length l.self-inside.parts.now
