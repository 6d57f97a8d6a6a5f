use Rattle.anti_kind.proofs.Found.{found_stays}
use Rattle.anti_kind.proofs.laws.what_was_found_stays.Goals as goal

pub returns : goal.returns
returns c = found_stays
