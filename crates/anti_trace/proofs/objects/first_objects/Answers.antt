use Rattle.std.proofs.Common.{◌+◌, ◌≤◌, List, sym, subst, vec_capacity, arith}
use Rattle.anti_object.specs.declared.object.Object.{Object}
use Rattle.anti_app.proofs.Runnable.{can_run}
use Rattle.anti_trace.specs.inner.After.{AreFirst}
use Rattle.anti_trace.proofs.GonePast.{first_more}
use Rattle.anti_trace.proofs.objects.first_objects.Goals as goal

pub object_count-count-requires : goal.object_count-count-requires
object_count-count-requires c = can_run c.args.app.now c.requires

pub loop-number-preserved : goal.loop-number-preserved
loop-number-preserved c =
    let app = c.args.app.now in
    let n = c.loop-number.number in
    let objects = c.push_reserved.new.self in
    let room : c.object_count-count.result ≤ vec_capacity objects = omega (arith, c.loop-number.invariant.1, c.push_reserved.ensures.capacity) in (
      subst (AreFirst app (n + 1)) (sym {A = List Object} c.push_reserved.ensures.items)
          (first_more app n c.loop-number.objects.items c.in_ok-first_object.field-0 c.loop-number.invariant.0 c.in_ok-first_object.ensures),
      room,
    )
