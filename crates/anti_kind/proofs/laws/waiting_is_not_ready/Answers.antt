use Rattle.anti_kind.proofs.Waiting.{waiting_is_not_ready}
use Rattle.anti_kind.proofs.laws.waiting_is_not_ready.Goals as goal

pub returns : goal.returns
returns c = waiting_is_not_ready
