use Rattle.anti_kind.proofs.Sources.{rows_have_sources}
use Rattle.anti_kind.proofs.laws.rows_have_sources.Goals as goal

pub returns : goal.returns
returns c = rows_have_sources
