use Rattle.anti_proc.proofs.Placed.{tree_on}
use Rattle.anti_proc.proofs.laws.calls_have_their_objects.Goals as goal

pub returns : goal.returns
returns c = tree_on
