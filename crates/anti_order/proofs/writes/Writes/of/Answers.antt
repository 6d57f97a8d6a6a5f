use Rattle.std.proofs.Common.{◌≡◌, length, refl, ap, arith}
use Rattle.anti_app.proofs.Runnable.{can_run}
use Rattle.anti_order.proofs.Noting.{all_noted, noted_more}
use Rattle.anti_order.proofs.writes.Writes.of.Goals as goal

pub object_count-requires : goal.object_count-requires
object_count-requires c = can_run c.args.app.now c.requires.sound

pub loop-place-preserved : goal.loop-place-preserved
loop-place-preserved c =
    noted_more c.args.app.now c.args.trace.now c.requires.legal c.loop-place.place c.at.result.now c.at.ensures c.loop-place.gathered c.add.new.self
    c.in_ok-add.ensures c.loop-place.invariant

pub returns : goal.returns
returns c =
    let trace = c.args.trace.now in
    let count = c.len-place-end.ensures.len in
    let end = c.loop-place.auto.place-end in
    let past = c.loop-place-test.false in
    let all : c.loop-place.place ≡ length trace = omega arith in
    all_noted c.args.app.now trace c.requires.legal c.loop-place.place all c.loop-place.gathered c.loop-place.invariant
    (omega (arith, count, c.len-place-end.type_inv)) _ (ap (λ ms. ms.items) c.in_ok-marks.ensures) refl
