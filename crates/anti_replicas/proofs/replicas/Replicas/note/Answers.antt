use Rattle.std.proofs.Common.{rules}
use Rattle.anti_replicas.proofs.Standing.{stands_other}
use Rattle.anti_replicas.proofs.replicas.Replicas.note.Goals as goal

pub returns-clause-stands : goal.returns-clause-stands
returns-clause-stands c = λ s h e at f other weighs. stands_other c.args.self.now _ s h e c.args.units at f other weighs (search rules)
