use Rattle.std.proofs.Common.{sym, ap, is_some}
use Rattle.anti_replicas.proofs.Reading.{row_there, row_absent}
use Rattle.anti_replicas.proofs.replicas.Replicas.is_version.Goals as goal

pub returns-in-Some : goal.returns-in-Some
returns-in-Some c = λ s h at. sym (ap is_some (row_there c.args.self.now s h at c.args.version _ c.in-Some.ensures.first c.in-Some.ensures.kept))

pub returns-in-None : goal.returns-in-None
returns-in-None c = λ s h at. sym (ap is_some (row_absent c.args.self.now s h at c.args.version c.in-None.ensures.none))
