use Rattle.std.proofs.Common.{arith}
use Rattle.std.proofs.lemmas.Grind.{common_steps}
use Rattle.anti_session.proofs.session_spans.spans_of.Goals as goal

pub returns : goal.returns
returns c = grind (arith, common_steps)

pub loop-session-preserved : goal.loop-session-preserved
loop-session-preserved c = grind (arith, common_steps)
