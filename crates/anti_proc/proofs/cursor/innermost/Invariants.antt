use Rattle.std.proofs.Common.{◌≡◌, drop}
use Rattle.anti_lang.specs.Steps.{steps_of}
use Rattle.anti_proc.specs.inner.Cursors.{innermost}
use Rattle.anti_proc.proofs.cursor.innermost.Given as goal

-- the blocks of the frames that are left lead to the innermost one
abbrev pub invariant-loop-frame : goal.invariant-loop-frame
invariant-loop-frame l = innermost (steps_of l.block) (drop l.frame-index l.outer) ≡ innermost (steps_of l.body) l.outer
