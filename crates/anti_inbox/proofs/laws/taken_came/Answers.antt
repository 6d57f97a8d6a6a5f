use Rattle.anti_inbox.proofs.Came.{taken_came}
use Rattle.anti_inbox.proofs.laws.taken_came.Goals as goal

pub returns : goal.returns
returns c = taken_came
