use Rattle.anti_inbox.proofs.Once.{takes_get}
use Rattle.anti_inbox.proofs.laws.takes_get.Goals as goal

pub returns : goal.returns
returns c = takes_get
