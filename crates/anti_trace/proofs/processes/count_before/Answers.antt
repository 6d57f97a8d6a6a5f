use Rattle.std.proofs.Common.{◌+◌, ◌-◌, ◌/◌, ◌<◌, length, ap, arith}
use Rattle.anti_kind.specs.declared.actor.Birth.{Birth}
use Rattle.anti_trace.proofs.InOrder.{above_from, below_up_to}
use Rattle.anti_trace.proofs.processes.count_before.Goals as goal

pub loop-low-preserved-then-birth-place : goal.loop-low-preserved-then-birth-place
loop-low-preserved-then-birth-place c =
    let l = c.loop-low in
    let inv = c.loop-low.invariant in
    let middle = l.low + (l.high - l.low) / 2 in
    let inside : middle < length c.args.processes.now = omega (arith, inv.within, c.loop-low-test.true) in
    record {
      order = omega (arith, c.loop-low-test.true);
      within = inv.within;
      below = below_up_to c.requires.0 c.args.processes.now c.requires.1 c.args.place middle c.index-processes-middle.result c.index-processes-middle.is inside
          (let place = ap (λ (b : Birth). b.place) c.birth.ensures in omega (arith, place, c.if-birth-place.true));
      above = inv.above;
    }

pub loop-low-preserved : goal.loop-low-preserved
loop-low-preserved c =
    let l = c.loop-low in
    let inv = c.loop-low.invariant in
    let middle = l.low + (l.high - l.low) / 2 in
    let inside : middle < length c.args.processes.now = omega (arith, inv.within, c.loop-low-test.true) in
    record {
      order = omega arith;
      within = omega (arith, inside);
      below = inv.below;
      above = above_from c.requires.0 c.args.processes.now c.requires.1 c.args.place middle c.index-processes-middle.result c.index-processes-middle.is inside
          (let place = ap (λ (b : Birth). b.place) c.birth.ensures in omega (arith, place, c.if-birth-place.false));
    }
