use Rattle.std.proofs.Common.{◌≤◌, length, arith}
use Rattle.anti_past.proofs.MarkPlaces.{knows_all, knows_more, none_known}
use Rattle.anti_past.proofs.marks.PlaceByMark.of.Goals as goal

pub loop-index-init : goal.loop-index-init
loop-index-init c = λ app legal. none_known c.args.trace.now (record { places = c.new-places.result }) c.new-places.ensures.empty

pub loop-index-preserved : goal.loop-index-preserved
loop-index-preserved c = λ app legal.
    knows_more app c.args.trace.now legal c.loop-index.index c.at-entry.result.now c.at-entry.ensures (record { places = c.loop-index.places })
    (record { places = c.insert.new.self }) c.in-Ok.ensures.updates (c.loop-index.invariant app legal)

pub returns : goal.returns
returns c = λ app legal.
    let count = c.len-index-end.ensures.len in
    let past = c.loop-index-test.false in
    let long : length c.args.trace.now ≤ c.loop-index.index = omega arith in
    knows_all c.args.trace.now c.loop-index.index (record { places = c.loop-index.places }) long (c.loop-index.invariant app legal)
