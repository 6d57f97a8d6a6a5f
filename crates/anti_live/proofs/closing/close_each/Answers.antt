use Rattle.std.proofs.Common.{List, sym, subst, arith}
use Rattle.anti_object.specs.declared.object.Object.{Object}
use Rattle.anti_shared.specs.Passes.{PassView, SharedView}
use Rattle.anti_live.specs.inner.Closing.{AreClosing}
use Rattle.anti_live.proofs.Closings.{closing_all, closing_first, closing_id, closing_more, closing_noted, closing_room}
use Rattle.anti_live.proofs.closing.close_each.Goals as goal

pub loop-shared-init : goal.loop-shared-init
loop-shared-init c =
    subst (λ (z : List (SharedView Object) × List (PassView Object)). AreClosing c.args.passes.items z.0 z.1 c.args.kepts) (λ i. (sym c.reverse.ensures.items i, sym c.reverse-2.ensures.items i))
    (closing_first c.args.shareds.items c.args.passes.items c.args.kepts c.requires.of c.requires.none c.requires.room)

pub close_at-requires-clause-of : goal.close_at-requires-clause-of
close_at-requires-clause-of c =
    closing_id c.args.passes.items c.loop-shared.shareds.items c.pop.new.self.items c.in-Some.shared c.in-Some.ensures.items c.loop-shared.passes.items c.pop-in-Some.new.self.items
    c.in-Some-pop.pass c.in-Some-pop.ensures.items c.loop-shared.kepts c.loop-shared.invariant

pub close_at-requires-clause-alone : goal.close_at-requires-clause-alone
close_at-requires-clause-alone c =
    closing_noted c.args.passes.items c.loop-shared.shareds.items c.pop.new.self.items c.in-Some.shared c.in-Some.ensures.items c.loop-shared.passes.items c.pop-in-Some.new.self.items
    c.in-Some-pop.pass c.in-Some-pop.ensures.items c.loop-shared.kepts c.loop-shared.invariant c.requires.alone

pub put-requires : goal.put-requires
put-requires c =
    closing_room c.args.passes.items c.loop-shared.shareds.items c.pop.new.self.items c.in-Some.shared c.in-Some.ensures.items c.loop-shared.passes.items c.pop-in-Some.new.self.items
    c.in-Some-pop.pass c.in-Some-pop.ensures.items c.loop-shared.kepts c.loop-shared.invariant

pub loop-shared-preserved : goal.loop-shared-preserved
loop-shared-preserved c =
    subst (AreClosing c.args.passes.items c.pop.new.self.items c.pop-in-Some.new.self.items) (sym c.put.ensures)
    (closing_more c.args.passes.items c.loop-shared.shareds.items c.pop.new.self.items c.in-Some.shared c.in-Some.ensures.items c.loop-shared.passes.items c.pop-in-Some.new.self.items
    c.in-Some-pop.pass c.in-Some-pop.ensures.items c.loop-shared.kepts c.loop-shared.invariant c.close_at.result c.close_at.ensures)

pub returns : goal.returns
returns c =
    closing_all c.args.passes.items c.loop-shared.shareds.items c.loop-shared.passes.items c.loop-shared.kepts
    (omega (arith, c.in_default.ensures.cases, c.loop-shared.shareds.ok.0)) c.loop-shared.invariant
