use Rattle.std.proofs.Common.{arith}
use Rattle.anti_app.proofs.Runnable.{can_run}
use Rattle.anti_work.specs.inner.Rounds.{Anything}
use Rattle.anti_work.proofs.AnyCame.{any_itself, any_more, any_stops}
use Rattle.anti_work.proofs.Many.{still_worker}
use Rattle.anti_work.proofs.worker.Worker.draw_takes.Goals as goal

pub loop-service-init : goal.loop-service-init
loop-service-init g c = any_itself c.args.app.now c.args.shared.now c.args.self.now c.requires.of

pub take_one-requires-clause-of : goal.take_one-requires-clause-of
take_one-requires-clause-of g c = c.loop-service.invariant.of

pub take_one-requires-clause-worker : goal.take_one-requires-clause-worker
take_one-requires-clause-worker g c =
    still_worker c.args.app.now c.args.shared.now c.args.self.now c.loop-service.self Anything c.loop-service.made c.loop-service.invariant c.requires.worker

pub service_count-service-end-requires : goal.service_count-service-end-requires
service_count-service-end-requires g c = can_run c.args.app.now c.requires.sound

pub take_one-requires-clause-service : goal.take_one-requires-clause-service
take_one-requires-clause-service g c = omega (arith, c.loop-service-test.true, c.service_count-service-end.ensures)

pub returns-in-Err : goal.returns-in-Err
returns-in-Err g c =
    any_stops c.args.app.now c.args.shared.now c.args.self.now c.loop-service.self c.take_one.new.self c.loop-service.made c.in-Err.stop c.loop-service.invariant c.in-Err.ensures

pub loop-service-preserved : goal.loop-service-preserved
loop-service-preserved g c =
    any_more c.args.app.now c.args.shared.now c.args.self.now c.loop-service.self c.take_one.new.self c.loop-service.made c.in-Ok.went c.either-made.result c.either-made.ensures
    c.loop-service.invariant c.in-Ok.ensures

pub returns : goal.returns
returns g c = c.loop-service.invariant
