use Rattle.anti_kind.proofs.Bounds.{within_units}
use Rattle.anti_kind.proofs.laws.units_suffice.Goals as goal

pub returns : goal.returns
returns c = within_units
