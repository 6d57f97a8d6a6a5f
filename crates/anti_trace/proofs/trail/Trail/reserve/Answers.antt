use Rattle.std.proofs.Common.{refl}
use Rattle.anti_trace.specs.declared.trail.OnObject.{OnObject}
use Rattle.anti_trace.proofs.Trails.{becomes_same}
use Rattle.anti_trace.proofs.trail.Trail.reserve.Goals as goal

pub returns-in_err-reserve-clause-same : goal.returns-in_err-reserve-clause-same
returns-in_err-reserve-clause-same c =
    let new : OnObject = record { carried = c.reserve.new.self } in
    becomes_same c.args.self.now c.args.object c.index_mut-here.result.now new c.index_mut-here.ensures.value c.requires _ refl refl c.reserve.ensures.items

pub returns-clause-same : goal.returns-clause-same
returns-clause-same c =
    let new : OnObject = record { carried = c.reserve.new.self } in
    becomes_same c.args.self.now c.args.object c.index_mut-here.result.now new c.index_mut-here.ensures.value c.requires _ refl refl c.reserve.ensures.items
