use Rattle.anti_kind.proofs.Lineages.{own_after}
use Rattle.anti_kind.proofs.laws.own_after.Goals as goal

pub returns : goal.returns
returns c = own_after
