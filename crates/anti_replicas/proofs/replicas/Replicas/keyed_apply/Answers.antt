use Rattle.std.proofs.Common.{sym, ap, subst, ◌∙◌, arith}
use Rattle.anti_kind.specs.Objects.{store, weight}
use Rattle.anti_kind.proofs.Bounds.{weight_within}
use Rattle.anti_replicas.specs.Stores.{keyed, IsOther}
use Rattle.anti_replicas.proofs.replicas.Replicas.keyed_apply.Goals as goal

pub returns-in-Scan-clause-stands : goal.returns-in-Scan-clause-stands
returns-in-Scan-clause-stands c = λ kind number regions h e at keys f is given.
    let s = keyed kind number regions in
    c.note.ensures.stands s h e at f (subst IsOther (sym (is ∙ c.in-Scan.is)) tt)
    (omega (arith, ap weight given, c.weight.ensures, weight_within (store s) h e at.sane at.legal f))
