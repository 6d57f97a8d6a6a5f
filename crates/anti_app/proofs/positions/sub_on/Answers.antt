use Rattle.std.proofs.Common.{arith}
use Rattle.std.proofs.lemmas.Grind.{elements}
use Rattle.anti_app.proofs.positions.sub_on.Goals as goal

pub returns : goal.returns
returns c = grind (arith, elements)
