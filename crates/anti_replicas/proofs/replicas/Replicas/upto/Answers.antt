use Rattle.std.proofs.Common.{◌<◌, length, sym, ◌∙◌, arith}
use Rattle.std.proofs.lemmas.Bool.{ltb-false}
use Rattle.std.proofs.lemmas.List.{get_or_default}
use Rattle.anti_replicas.proofs.Behind.{upto_marks}
use Rattle.anti_replicas.proofs.Bringing.{upto_beyond}
use Rattle.anti_replicas.proofs.replicas.Replicas.upto.Goals as goal

pub returns-in-Some : goal.returns-in-Some
returns-in-Some c = λ s h at.
    let low : c.args.region < 8 = omega (arith, c.in-Some.ensures.lookup.3.0, at.state.uptos) in
    c.in-Some.ensures.lookup.1 ∙ get_or_default c.args.self.now.upto c.args.region c.in-Some.upto.now 0 (omega (arith, low, at.state.uptos))
    ∙ at.state.upto_is c.args.region low
    ∙ upto_marks c.args.self.now s h at c.args.region low

pub returns-in-None : goal.returns-in-None
returns-in-None c = λ s h at.
    let past = ltb-false c.args.region (length c.args.self.now.upto) (sym c.in-None.ensures.lookup.0) in
    upto_beyond c.args.self.now s h at c.args.region (omega (arith, past, at.state.uptos))
