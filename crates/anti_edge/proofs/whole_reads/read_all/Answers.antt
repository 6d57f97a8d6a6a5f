use Rattle.std.proofs.Common.{arith, ◌∙◌}
use Rattle.std.proofs.lemmas.Grind.{common_steps}
use Rattle.anti_edge.proofs.Fronts.{HasRead-step, HasRead-front, HasRead-most}
use Rattle.anti_edge.proofs.whole_reads.read_all.Goals as goal

pub returns-in_err-count-clause-early : goal.returns-in_err-count-clause-early
returns-in_err-count-clause-early g c = λ fault.
    let before = HasRead-most _ _ _ c.args.limit c.loop-bytes.invariant.read c.loop-bytes.invariant.short in
    (before.0, before.1, c.in_err-count.ensures.unread ∙ before.2)

pub returns-in_err-count-clause-front : goal.returns-in_err-count-clause-front
returns-in_err-count-clause-front g c =
    let before = HasRead-front _ _ _ c.loop-bytes.invariant.read in
    (before.0, c.in_err-count.ensures.unread ∙ before.1)

pub returns-then-count-eq0-clause-front : goal.returns-then-count-eq0-clause-front
returns-then-count-eq0-clause-front g c =
    HasRead-front _ _ _ (HasRead-step _ _ _ _ _ _ c.loop-bytes.invariant.read c.in_ok-count.ensures.given c.in_ok-count.ensures.rest)

pub returns-then-count-limit-clause-front : goal.returns-then-count-limit-clause-front
returns-then-count-limit-clause-front g c =
    HasRead-front _ _ _ (HasRead-step _ _ _ _ _ _ c.loop-bytes.invariant.read c.in_ok-count.ensures.given c.in_ok-count.ensures.rest)

pub returns-in_err-append-clause-front : goal.returns-in_err-append-clause-front
returns-in_err-append-clause-front g c =
    HasRead-front _ _ _ (HasRead-step _ _ _ _ _ _ c.loop-bytes.invariant.read c.in_ok-count.ensures.given c.in_ok-count.ensures.rest)

pub returns-then-count-limit-clause-too_long : goal.returns-then-count-limit-clause-too_long
returns-then-count-limit-clause-too_long g c = grind (arith, common_steps)

pub loop-bytes-preserved : goal.loop-bytes-preserved
loop-bytes-preserved g c = grind (arith, common_steps)

pub loop-bytes-smaller : goal.loop-bytes-smaller
loop-bytes-smaller g c = grind (arith, common_steps)
