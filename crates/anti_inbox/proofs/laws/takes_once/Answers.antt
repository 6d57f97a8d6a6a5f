use Rattle.anti_inbox.proofs.Once.{takes_once}
use Rattle.anti_inbox.proofs.laws.takes_once.Goals as goal

pub returns : goal.returns
returns c = takes_once
