use Rattle.std.proofs.Common.{sym, subst}
use Rattle.anti_replicas.specs.Stores.{IsOther}
use Rattle.anti_replicas.proofs.Standing.{passing_other}
use Rattle.anti_replicas.proofs.replicas.Replicas.pass.Goals as goal

pub returns-in_default-clause-stands : goal.returns-in_default-clause-stands
returns-in_default-clause-stands c = λ s h e at f is weighs.
    c.note.ensures.stands s h e at f (subst IsOther (sym is) (passing_other c.args.c.now c.requires.passing c.in_default.not-Ship)) weighs
