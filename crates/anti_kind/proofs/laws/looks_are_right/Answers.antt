use Rattle.anti_kind.proofs.Keeping.{looks_right}
use Rattle.anti_kind.proofs.laws.looks_are_right.Goals as goal

pub returns : goal.returns
returns c = looks_right
