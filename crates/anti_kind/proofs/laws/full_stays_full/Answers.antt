use Rattle.anti_kind.proofs.Fullness.{full_stays}
use Rattle.anti_kind.proofs.laws.full_stays_full.Goals as goal

pub returns : goal.returns
returns c = full_stays
