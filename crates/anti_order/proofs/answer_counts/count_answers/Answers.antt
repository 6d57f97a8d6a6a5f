use Rattle.std.proofs.Common.{List, subst}
use Rattle.anti_kind.specs.declared.entry.Entry.{Entry}
use Rattle.anti_trace.specs.inner.Trails.{IsTrailOf}
use Rattle.anti_trace.proofs.Trails.{trail_if}
use Rattle.anti_order.proofs.answer_counts.count_answers.Goals as goal

pub count_answers_along-requires-clause-trail : goal.count_answers_along-requires-clause-trail
count_answers_along-requires-clause-trail c =
    let trail = c.in_ok-trail.trail in
    trail_if c.args.app.now c.args.trace.now trail
    (subst (λ (t : List Entry). IsTrailOf c.args.app.now t trail) c.as_slice.ensures.entries c.in_ok-trail.ensures)
