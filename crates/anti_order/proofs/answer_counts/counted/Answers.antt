use Rattle.std.proofs.Common.{arith, length, sym, ap, ◌∙◌, subst}
use Rattle.std.proofs.lemmas.Grind.{common_steps}
use Rattle.anti_past.specs.Pasts.{ArePastsOf}
use Rattle.anti_past.specs.inner.Walking.{IsCourseOf}
use Rattle.anti_order.proofs.Counted.{all_lossy, none_lossy, reads_within}
use Rattle.anti_order.proofs.answer_counts.counted.Goals as goal

pub count_unsettled-unguarded-requires : goal.count_unsettled-unguarded-requires
count_unsettled-unguarded-requires c =
    let course = subst (IsCourseOf c.args.app.now c.args.trace.now) c.in-NoLoss.is c.in_ok-along.ensures in
    reads_within c.args.trace.now (length c.as_slice.result.now) c.args.spans.now c.requires.spans
    (sym (ap length c.as_slice.ensures.value ∙ course.1.count))

pub returns-in-Loss : goal.returns-in-Loss
returns-in-Loss c =
    all_lossy c.args.app.now c.args.trace.now c.args.spans.now c.in-Loss.field-0 c.requires.spans
    (subst (IsCourseOf c.args.app.now c.args.trace.now) c.in-Loss.is c.in_ok-along.ensures)

pub returns-in-NoLoss : goal.returns-in-NoLoss
returns-in-NoLoss c =
    let app = c.args.app.now in
    let trace = c.args.trace.now in
    let course = subst (IsCourseOf app trace) c.in-NoLoss.is c.in_ok-along.ensures in
    none_lossy app trace c.as_slice.result.now course.0 (subst (ArePastsOf app trace) (sym c.as_slice.ensures.value) course.1)
    c.args.spans.now c.count_unsettled-unguarded.result c.requires.spans c.count_unsettled-unguarded.ensures

pub overflow_sub-result : goal.overflow_sub-result
overflow_sub-result c = grind (arith, common_steps)

pub returns-then-is_empty : goal.returns-then-is_empty
returns-then-is_empty c = grind (arith, common_steps)
