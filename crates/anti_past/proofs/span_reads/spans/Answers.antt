use Rattle.std.proofs.Common.{arith}
use Rattle.std.proofs.lemmas.Grind.{common_steps}
use Rattle.anti_past.proofs.span_reads.spans.Goals as goal

pub returns : goal.returns
returns c = grind (arith, common_steps)

pub loop-reads-preserved : goal.loop-reads-preserved
loop-reads-preserved c = grind (arith, common_steps)
