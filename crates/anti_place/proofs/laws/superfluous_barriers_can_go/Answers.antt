use Rattle.anti_place.proofs.Freed.{freed}
use Rattle.anti_place.proofs.laws.superfluous_barriers_can_go.Goals as goal

pub returns : goal.returns
returns c = λ app service handler line is none. freed app service handler line is none
