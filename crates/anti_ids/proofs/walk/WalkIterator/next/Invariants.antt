use Rattle.std.proofs.Common.{◌≡◌, ◌++◌, take, length}
use Rattle.anti_ids.specs.inner.Parts.{joined}
use Rattle.anti_ids.proofs.walk.WalkIterator.next.Given as goal

-- the same are still to come
abbrev pub invariant-loop-part : goal.invariant-loop-part
invariant-loop-part l = l.self-inside.part.now ++ take l.self-inside.left (joined l.self-inside.parts.now) ≡ l.fn.self

abbrev pub decreases-loop-part : goal.decreases-loop-part
decreases-loop-part l = length l.self-inside.parts.now
