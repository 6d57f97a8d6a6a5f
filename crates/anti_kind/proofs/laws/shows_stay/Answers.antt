use Rattle.anti_kind.proofs.Caching.{shows_stay_by_kind}
use Rattle.anti_kind.proofs.laws.shows_stay.Goals as goal

pub returns : goal.returns
returns c = shows_stay_by_kind
