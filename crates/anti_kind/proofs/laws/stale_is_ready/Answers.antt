use Rattle.anti_kind.proofs.Staleness.{stale_is_ready}
use Rattle.anti_kind.proofs.laws.stale_is_ready.Goals as goal

pub returns : goal.returns
returns c = stale_is_ready
