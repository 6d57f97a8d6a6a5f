use Rattle.anti_inbox.proofs.Came.{heard_came}
use Rattle.anti_inbox.proofs.laws.heard_came.Goals as goal

pub returns : goal.returns
returns c = heard_came
