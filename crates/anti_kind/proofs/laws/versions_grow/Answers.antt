use Rattle.anti_kind.proofs.Rows.{versions_grow}
use Rattle.anti_kind.proofs.laws.versions_grow.Goals as goal

pub returns : goal.returns
returns c = versions_grow
