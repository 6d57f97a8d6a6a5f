use Rattle.std.proofs.Common.{ap, ◌∙◌, leb}
use Rattle.anti_replicas.proofs.Bringing.{part_is, no_such_part, part_absent}
use Rattle.anti_replicas.proofs.replicas.Replicas.has_part.Goals as goal

pub returns-then-part-eq0 : goal.returns-then-part-eq0
returns-then-part-eq0 c = λ s h at. no_such_part c.args.self.now s h at c.args.version c.args.part c.if-part-eq0.true

pub returns-in-Some : goal.returns-in-Some
returns-in-Some c = λ s h at.
    ap (leb c.args.part) c.from.ensures
    ∙ part_is c.args.self.now s h at c.args.version c.args.part c.in-Some.kept.now c.if-part-eq0.false c.in-Some.ensures.first c.in-Some.ensures.kept

pub returns-in-None : goal.returns-in-None
returns-in-None c = λ s h at. part_absent c.args.self.now s h at c.args.version c.args.part c.in-None.ensures.none
