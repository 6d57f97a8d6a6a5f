use Rattle.anti_replicas.proofs.Reading.{row_there, row_absent}
use Rattle.anti_replicas.proofs.replicas.Replicas.row_at.Goals as goal

pub returns-in-Some-clause-some : goal.returns-in-Some-clause-some
returns-in-Some-clause-some c = λ s h at. row_there c.args.self.now s h at c.args.version c.in-Some.kept.now c.in-Some.ensures.first c.in-Some.ensures.kept

pub returns-in-None-clause-none : goal.returns-in-None-clause-none
returns-in-None-clause-none c = λ s h at. row_absent c.args.self.now s h at c.args.version c.in-None.ensures.none
