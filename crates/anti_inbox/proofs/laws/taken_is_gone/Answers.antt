use Rattle.anti_inbox.proofs.Once.{taken_is_gone}
use Rattle.anti_inbox.proofs.laws.taken_is_gone.Goals as goal

pub returns : goal.returns
returns c = taken_is_gone
