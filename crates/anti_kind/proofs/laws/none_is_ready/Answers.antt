use Rattle.anti_kind.proofs.NextShipments.{none_is_ready}
use Rattle.anti_kind.proofs.laws.none_is_ready.Goals as goal

pub returns : goal.returns
returns c = none_is_ready
