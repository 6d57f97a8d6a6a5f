use Rattle.std.proofs.Common.{arith, ◌+◌, take, drop, subst}
use Rattle.std.proofs.lemmas.Grind.{common_steps}
use Rattle.anti_trace.specs.Legal.{IsLegalTrace}
use Rattle.anti_trace.specs.inner.Trails.{HasGone}
use Rattle.anti_trace.proofs.GonePast.{cut_at, taken_more}
use Rattle.anti_trace.proofs.aftermath.Going.of.Goals as goal

pub follow-requires-clause-next : goal.follow-requires-clause-next
follow-requires-clause-next c =
    let trace = c.args.trace.now in
    let i = c.loop-entry.entry-index in
    record {
      before = take i trace;
      after = drop (i + 1) trace;
      legal = subst (IsLegalTrace c.args.app.now) (cut_at c.args.app.now trace c.requires.legal i c.entry-item.result c.loop-entry-test.true c.entry-item.is) c.requires.legal;
      is_kept = c.args.is_kept;
      gone = c.loop-entry.invariant;
    }

pub loop-entry-preserved : goal.loop-entry-preserved
loop-entry-preserved c =
    let app = c.args.app.now in
    let trace = c.args.trace.now in
    let i = c.loop-entry.entry-index in
    let e = c.entry-item.result in
    subst (λ t. HasGone app c.args.is_kept t c.follow.new.self) (taken_more app trace c.requires.legal i e c.loop-entry-test.true c.entry-item.is)
    (c.in_ok-follow.ensures c.args.is_kept (take i trace) (drop (i + 1) trace)
    (subst (IsLegalTrace app) (cut_at app trace c.requires.legal i e c.loop-entry-test.true c.entry-item.is) c.requires.legal) c.loop-entry.invariant)

pub returns : goal.returns
returns c = grind (arith, common_steps)
