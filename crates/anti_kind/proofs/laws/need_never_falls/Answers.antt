use Rattle.anti_kind.proofs.Fullness.{need_never_falls}
use Rattle.anti_kind.proofs.laws.need_never_falls.Goals as goal

pub returns : goal.returns
returns c = need_never_falls
