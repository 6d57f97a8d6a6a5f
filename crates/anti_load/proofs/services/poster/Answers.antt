use Rattle.std.proofs.Common.{ap}
use Rattle.std.specs.Prelude.{is_ok}
use Rattle.anti_load.proofs.Bodies.{post_stated}
use Rattle.anti_load.proofs.services.poster.Goals as goal

pub body_of-requires-clause-stated : goal.body_of-requires-clause-stated
body_of-requires-clause-stated c = ap is_ok post_stated
