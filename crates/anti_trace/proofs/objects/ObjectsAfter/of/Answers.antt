use Rattle.std.proofs.Common.{arith, take, subst}
use Rattle.std.proofs.lemmas.Grind.{common_steps}
use Rattle.anti_trace.specs.inner.After.{AreAfter}
use Rattle.anti_trace.proofs.GonePast.{before_next, taken_more}
use Rattle.anti_trace.proofs.objects.ObjectsAfter.of.Goals as goal

pub go_past-requires : goal.go_past-requires
go_past-requires c =
    let app = c.args.app.now in
    let trace = c.args.trace.now in
    let i = c.loop-entry.entry-index in
    (app, (take i trace, before_next app trace c.requires.legal i c.entry-item.result c.loop-entry-test.true c.entry-item.is c.loop-entry.objects.items c.loop-entry.invariant))

pub loop-entry-preserved : goal.loop-entry-preserved
loop-entry-preserved c =
    let app = c.args.app.now in
    let trace = c.args.trace.now in
    let i = c.loop-entry.entry-index in
    subst (λ t. AreAfter app t c.go_past.new.objects.items) (taken_more app trace c.requires.legal i c.entry-item.result c.loop-entry-test.true c.entry-item.is)
    (c.in_ok-go_past.ensures app (take i trace)
    (before_next app trace c.requires.legal i c.entry-item.result c.loop-entry-test.true c.entry-item.is c.loop-entry.objects.items c.loop-entry.invariant))

pub returns : goal.returns
returns c = grind (arith, common_steps)
