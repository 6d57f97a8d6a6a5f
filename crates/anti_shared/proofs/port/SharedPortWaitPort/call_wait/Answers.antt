use Rattle.std.proofs.Common.{arith}
use Rattle.anti_shared.proofs.port.SharedPortWaitPort.call_wait.Goals as goal

pub returns-clause-others : goal.returns-clause-others
returns-clause-others g c = grind arith
