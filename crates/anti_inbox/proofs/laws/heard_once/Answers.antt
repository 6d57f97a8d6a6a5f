use Rattle.anti_inbox.proofs.Once.{heard_once}
use Rattle.anti_inbox.proofs.laws.heard_once.Goals as goal

pub returns : goal.returns
returns c = heard_once
