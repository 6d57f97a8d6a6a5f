use Rattle.std.proofs.Common.{arith}
use Rattle.std.proofs.lemmas.Grind.{common_steps}
use Rattle.anti_lang.proofs.BuildLemmas.{built_next}
use Rattle.anti_lang.proofs.blocks.build.Goals as goal

pub loop-line-preserved : goal.loop-line-preserved
loop-line-preserved c =
    built_next c.loop-line.bodies c.with_line.new.bodies c.loop-line.lines.items c.pop.new.self.items c.args.lines.items c.in-Some.line c.requires
    c.loop-line.invariant c.in-Some.ensures.some c.in_ok-with_line.ensures

pub loop-line-smaller : goal.loop-line-smaller
loop-line-smaller c = grind (arith, common_steps)
