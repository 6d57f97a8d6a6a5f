use Rattle.anti_kind.proofs.Waiting.{waiting_goes_on}
use Rattle.anti_kind.proofs.laws.waiting_goes_on.Goals as goal

pub returns : goal.returns
returns c = waiting_goes_on
