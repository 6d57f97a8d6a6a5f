use Rattle.std.proofs.Common.{◌≡◌}
use Rattle.anti_lang.specs.Steps.{steps_of}
use Rattle.anti_proc.specs.inner.Cursors.{left_at, turns_left}
use Rattle.anti_proc.proofs.cursor.Cursor.next_line.Given as goal

-- the same is left
abbrev pub invariant-loop-statement : goal.invariant-loop-statement
invariant-loop-statement l = left_at (steps_of l.body) l.self ≡ left_at (steps_of l.body) l.initial.self

abbrev pub decreases-loop-statement : goal.decreases-loop-statement
decreases-loop-statement l = turns_left l.self
