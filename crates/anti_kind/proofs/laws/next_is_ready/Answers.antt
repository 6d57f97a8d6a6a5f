use Rattle.anti_kind.proofs.NextShipments.{next_is_ready}
use Rattle.anti_kind.proofs.laws.next_is_ready.Goals as goal

pub returns : goal.returns
returns c = next_is_ready
