use Rattle.anti_kind.proofs.Fullness.{asking_stays_ready}
use Rattle.anti_kind.proofs.laws.asking_stays_ready.Goals as goal

pub returns : goal.returns
returns c = asking_stays_ready
