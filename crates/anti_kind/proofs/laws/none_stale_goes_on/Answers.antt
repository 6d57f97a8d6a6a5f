use Rattle.anti_kind.proofs.Staleness.{none_stale_goes_on}
use Rattle.anti_kind.proofs.laws.none_stale_goes_on.Goals as goal

pub returns : goal.returns
returns c = none_stale_goes_on
