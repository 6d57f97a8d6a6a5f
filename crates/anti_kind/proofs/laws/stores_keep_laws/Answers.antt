use Rattle.anti_kind.proofs.Caching.{kinds_keep_laws}
use Rattle.anti_kind.proofs.laws.stores_keep_laws.Goals as goal

pub returns : goal.returns
returns c = kinds_keep_laws
