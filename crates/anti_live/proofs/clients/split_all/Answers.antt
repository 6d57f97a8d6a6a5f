use Rattle.std.proofs.Common.{◌+◌, List, length, sym, ap, subst, arith}
use Rattle.std.specs.Prelude.{slice_set}
use Rattle.anti_object.specs.declared.object.Object.{Object}
use Rattle.anti_shared.specs.Passes.{PassView}
use Rattle.anti_live.specs.inner.Splitting.{AreSplitting}
use Rattle.anti_live.proofs.Splits.{next_id, next_room, splitting_all, splitting_first, splitting_more}
use Rattle.anti_live.proofs.clients.split_all.Goals as goal

pub loop-at-init : goal.loop-at-init
loop-at-init c = (
  subst (λ (made : List (PassView Object)). AreSplitting c.args.passes.now.items c.args.passes.now.items made 0) (sym c.requires.none) (splitting_first c.args.passes.now.items),
  ap (λ (made : List (PassView Object)). length made) c.requires.none,
  c.requires.fits,
)

pub split-requires-clause-of : goal.split-requires-clause-of
split-requires-clause-of c =
    next_id c.args.shareds.now c.args.passes.now.items c.loop-at.passes.items c.loop-at.made.items c.loop-at.at c.requires.of c.loop-at-test.true c.loop-at.invariant.0
    c.index_mut.result.now c.index_mut.ensures.value c.index-shareds-at.result c.index-shareds-at.is

pub split-requires-clause-room : goal.split-requires-clause-room
split-requires-clause-room c =
    next_room c.args.shareds.now c.args.passes.now.items c.loop-at.passes.items c.loop-at.made.items c.loop-at.at c.requires.of c.loop-at-test.true c.loop-at.invariant.0
    c.index_mut.result.now c.index_mut.ensures.value c.requires.room

pub unreachable-requires-in_default-push : goal.unreachable-requires-in_default-push
unreachable-requires-in_default-push c = omega (arith, c.in_default-push.ensures.full, c.loop-at.made.ok.0, c.loop-at.invariant, c.loop-at-test.true)

pub loop-at-preserved : goal.loop-at-preserved
loop-at-preserved c = (
  subst (λ (made : List (PassView Object)). AreSplitting c.args.passes.now.items (slice_set c.loop-at.passes.items c.loop-at.at c.split.new.pass) made (c.loop-at.at + 1)) (sym c.in-Ok-push.ensures.items)
      (splitting_more c.args.shareds.now c.args.passes.now.items c.loop-at.passes.items c.loop-at.made.items c.loop-at.at c.requires.of c.loop-at-test.true c.loop-at.invariant.0
      c.index_mut.result.now c.index_mut.ensures.value c.split.new.pass c.in-Ok.pass c.in-Ok.ensures.ok),
  omega (arith, c.in-Ok-push.ensures.len, c.loop-at.made.ok.0, c.push.new.self.ok.0, c.loop-at.invariant),
  omega (arith, c.in-Ok-push.ensures.capacity, c.loop-at.invariant),
)

pub returns : goal.returns
returns c =
    splitting_all c.args.shareds.now c.args.passes.now.items c.loop-at.passes.items c.loop-at.made.items c.loop-at.at c.requires.of c.loop-at-test.false c.loop-at.invariant.0
