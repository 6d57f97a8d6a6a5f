use Rattle.std.proofs.Common.{List, sym, subst, ap, arith}
use Rattle.std.specs.Prelude.{◌≡◌, [], ◌∷◌, ◌++◌}
use Rattle.anti_ids.specs.List.{Listed}
use Rattle.anti_object.specs.declared.object.Object.{Object}
use Rattle.anti_shared.specs.Passes.{PassView, SharedView}
use Rattle.anti_play.specs.inner.Kepts.{Kept}
use Rattle.anti_work.specs.inner.Closing.{AreClosing}
use Rattle.anti_work.proofs.Closed.{closing_all, closing_first, closing_more, next_id, some_pass}
use Rattle.anti_work.proofs.gathering.close_each.Goals as goal

pub loop-object-init : goal.loop-object-init
loop-object-init c =
    subst (λ (z : List (SharedView Object) × List (PassView Object) × List Kept). AreClosing c.args.firsts.items z.0 z.1 z.2)
    (λ i. (sym c.reverse.ensures.items i, sym c.reverse-2.ensures.items i, sym (ap (λ (l : Listed Kept). l.items) c.new-kepts.ensures) i))
    (closing_first c.args.shared.items c.args.firsts.items c.requires)

pub unreachable-requires : goal.unreachable-requires
unreachable-requires c =
    some_pass c.args.firsts.items c.loop-object.shared.items c.pop.new.self.items c.in-Some.object c.loop-object.kepts.items c.in-Some.ensures.items
    c.loop-object.firsts.items c.loop-object.invariant (omega (arith, c.in-None.ensures.cases, c.loop-object.firsts.ok.0))

pub close_at-requires : goal.close_at-requires
close_at-requires c =
    next_id c.args.firsts.items c.loop-object.shared.items c.pop.new.self.items c.in-Some.object c.loop-object.kepts.items c.in-Some.ensures.items
    c.loop-object.firsts.items c.pop-in-Some.new.self.items c.in-Some-pop.pass c.in-Some-pop.ensures.items c.loop-object.invariant

pub loop-object-preserved : goal.loop-object-preserved
loop-object-preserved c =
    let kept = c.in_ok-close_at-in-Some-pop.field-0 in
    let added : c.add.new.self.items ≡ c.loop-object.kepts.items ++ kept ∷ [] = ap (λ (l : Listed Kept). l.items) c.in_ok-add-in-Some-pop.ensures.ok in
    subst (AreClosing c.args.firsts.items c.pop.new.self.items c.pop-in-Some.new.self.items) (sym added)
    (closing_more c.args.firsts.items c.loop-object.shared.items c.pop.new.self.items c.in-Some.object c.loop-object.kepts.items c.in-Some.ensures.items
    c.loop-object.firsts.items c.pop-in-Some.new.self.items c.in-Some-pop.pass c.in-Some-pop.ensures.items c.loop-object.invariant
    kept c.in_ok-close_at-in-Some-pop.ensures)

pub returns : goal.returns
returns c =
    closing_all c.args.firsts.items c.loop-object.shared.items c.loop-object.firsts.items c.loop-object.kepts.items
    (omega (arith, c.in_default.ensures.cases, c.loop-object.shared.ok.0)) c.loop-object.invariant
