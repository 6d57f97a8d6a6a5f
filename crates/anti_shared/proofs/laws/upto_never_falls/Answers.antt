use Rattle.anti_shared.specs.inner.Reaching.{upto_rises}
use Rattle.anti_shared.proofs.laws.upto_never_falls.Goals as goal

pub returns : goal.returns
returns c = upto_rises
