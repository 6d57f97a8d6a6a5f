use Rattle.std.proofs.Common.{◌+◌, ◌≤◌, List, sym, subst, vec_capacity, arith}
use Rattle.anti_trace.specs.declared.trail.OnObject.{OnObject}
use Rattle.anti_trace.specs.inner.Trails.{IsBare}
use Rattle.anti_trace.proofs.Trails.{bare_more}
use Rattle.anti_trace.proofs.trail.Trail.new.Goals as goal

pub loop-preserved : goal.loop-preserved
loop-preserved c =
    let n = c.loop.counter in
    let room : c.args.count ≤ vec_capacity c.push_reserved.new.self = omega (arith, c.loop.invariant.1, c.push_reserved.ensures.capacity) in (
      subst (IsBare (n + 1)) (sym {A = List OnObject} c.push_reserved.ensures.items) (bare_more n c.loop.at.items c.new.result c.loop.invariant.0 c.new.ensures),
      room,
    )

pub push_reserved-requires : goal.push_reserved-requires
push_reserved-requires c = omega (arith, c.loop.at.ok.0, c.loop.invariant.0.many, c.loop.invariant.1, c.loop-test.true)
