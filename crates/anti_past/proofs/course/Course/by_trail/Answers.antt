use Rattle.std.proofs.Common.{◌≡◌, ◌+◌, ◌≤◌, length, sym, subst, arith}
use Rattle.anti_past.specs.inner.Walking.{ArePastsBefore, IsStep}
use Rattle.anti_past.proofs.Losing.{lossless}
use Rattle.anti_past.proofs.Told.{all_told, pasts_more}
use Rattle.anti_past.proofs.course.Course.by_trail.Goals as goal

pub returns-in-Loss : goal.returns-in-Loss
returns-in-Loss c = subst (IsStep c.args.app.now c.args.trace.now c.loop-index.index c.step.new.self) c.in-Loss.is c.in_ok-mark.ensures

pub loop-index-preserved : goal.loop-index-preserved
loop-index-preserved c =
    let app = c.args.app.now in
    let trace = c.args.trace.now in
    let k = c.loop-index.index in
    let told = subst (IsStep app trace k c.step.new.self) c.in-Goes.is c.in_ok-mark.ensures in (
      told.0,
      subst (ArePastsBefore app trace (k + 1)) (sym c.in_ok-push-in-Goes.ensures.items)
          (pasts_more app trace k c.loop-index.pasts.items c.loop-index.invariant.1 c.in-Goes.past told.1),
    )

pub returns : goal.returns
returns c =
    let app = c.args.app.now in
    let trace = c.args.trace.now in
    let k = c.loop-index.index in
    let count = c.len-index-end.ensures.len in
    let end = c.loop-index.auto.index-end in
    let past = c.loop-index-test.false in
    let long : length trace ≤ k = omega arith in
    let all : length trace ≡ k = omega arith in
    (lossless app trace k long c.loop-index.invariant.0.none, all_told app trace k c.loop-index.pasts.items c.loop-index.invariant.1 all)
