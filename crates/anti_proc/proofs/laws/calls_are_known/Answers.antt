use Rattle.anti_proc.proofs.KnownCalls.{tree_known}
use Rattle.anti_proc.proofs.laws.calls_are_known.Goals as goal

pub returns : goal.returns
returns c = tree_known
