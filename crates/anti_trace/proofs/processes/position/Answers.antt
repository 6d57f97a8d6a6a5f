use Rattle.std.proofs.Common.{sym, ◌∙◌, arith}
use Rattle.anti_trace.proofs.InOrder.{birth_differs, birth_equal, count_found, count_missed, count_past}
use Rattle.anti_trace.proofs.processes.position.Goals as goal

pub returns-then-at-processes : goal.returns-then-at-processes
returns-then-at-processes c =
    sym (count_past c.args.birth c.args.processes.now c.requires c.count_before-at.result c.count_before-at.ensures (omega (arith, c.if-at-processes.true)))

pub returns-then-eq : goal.returns-then-eq
returns-then-eq c =
    sym (count_found c.args.birth c.args.processes.now c.requires c.count_before-at.result c.count_before-at.ensures c.index-processes-at.result
    (omega (arith, c.count_before-at.ensures.within, c.if-at-processes.false)) c.index-processes-at.is
    (sym c.birth.ensures ∙ birth_equal c.birth.result c.args.birth (sym c.eq.ensures ∙ c.if-eq.true)))

pub returns-else-eq : goal.returns-else-eq
returns-else-eq c =
    sym (count_missed c.args.birth c.args.processes.now c.requires c.count_before-at.result c.count_before-at.ensures c.index-processes-at.result
    (omega (arith, c.count_before-at.ensures.within, c.if-at-processes.false)) c.index-processes-at.is
    (λ same. birth_differs c.birth.result c.args.birth (sym c.eq.ensures ∙ c.if-eq.false) (c.birth.ensures ∙ same)))
