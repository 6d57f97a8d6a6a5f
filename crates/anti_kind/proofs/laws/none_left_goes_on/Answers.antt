use Rattle.anti_kind.proofs.Waiting.{none_left_goes_on}
use Rattle.anti_kind.proofs.laws.none_left_goes_on.Goals as goal

pub returns : goal.returns
returns c = none_left_goes_on
