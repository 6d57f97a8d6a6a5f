use Rattle.anti_inbox.proofs.Once.{answered_once}
use Rattle.anti_inbox.proofs.laws.answered_once.Goals as goal

pub returns : goal.returns
returns c = answered_once
