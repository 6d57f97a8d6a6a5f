use Rattle.anti_kind.proofs.Bounds.{units}
use Rattle.anti_kind.proofs.laws.units_add_up.Goals as goal

pub returns : goal.returns
returns c = units
