use Rattle.std.proofs.Common.{length, List}
use Rattle.anti_lang.proofs.BuildLemmas.{BuiltFrom}
use Rattle.anti_lang.specs.declared.line.Line as code
use Rattle.anti_lang.proofs.blocks.build.Given as goal

abbrev pub invariant-loop-line : goal.invariant-loop-line
invariant-loop-line l = (done : List code.Line) × BuiltFrom l.bodies l.lines.items l.fn.lines.items done

abbrev pub decreases-loop-line : goal.decreases-loop-line
decreases-loop-line l = length l.lines.items
