use Rattle.std.proofs.Common.{arith}
use Rattle.std.proofs.lemmas.Grind.{common_steps}
use Rattle.anti_app.proofs.service.handlers_of.Goals as goal

pub returns : goal.returns
returns c = grind (arith, common_steps)

pub unreachable-requires : goal.unreachable-requires
unreachable-requires c = grind (arith, common_steps)

pub loop-value-init : goal.loop-value-init
loop-value-init c = grind (arith, common_steps)

pub handler_of-requires : goal.handler_of-requires
handler_of-requires c = grind (arith, common_steps)

pub loop-value-preserved : goal.loop-value-preserved
loop-value-preserved c = grind (arith, common_steps)
