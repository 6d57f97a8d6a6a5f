use Rattle.anti_kind.proofs.Sources.{calls_name_own}
use Rattle.anti_kind.proofs.laws.calls_name_own.Goals as goal

pub returns : goal.returns
returns c = calls_name_own
