use Rattle.std.proofs.Common.{length, arith}
use Rattle.anti_app.proofs.Runnable.{can_run}
use Rattle.anti_work.specs.inner.Rounds.{FirstRefused, TakeRefused}
use Rattle.anti_work.proofs.Loops.{take_more, up_to}
use Rattle.anti_work.proofs.Many.{comes_first, comes_stops, still_worker}
use Rattle.anti_work.proofs.worker.Worker.try_takes.Goals as goal

pub service_count-service-end-requires : goal.service_count-service-end-requires
service_count-service-end-requires g c = can_run c.args.app.now c.requires.sound

pub loop-service-init : goal.loop-service-init
loop-service-init g c = comes_first c.args.app.now c.args.shared.now c.args.self.now (TakeRefused c.args.app.now c.args.self.now.number c.args.self.now) c.requires.of

pub try_take-requires-clause-of : goal.try_take-requires-clause-of
try_take-requires-clause-of g c = c.loop-service.invariant.of

pub try_take-requires-clause-worker : goal.try_take-requires-clause-worker
try_take-requires-clause-worker g c =
    still_worker c.args.app.now c.args.shared.now c.args.self.now c.loop-service.self (FirstRefused (TakeRefused c.args.app.now c.args.self.now.number c.loop-service.self) c.loop-service.service) c.loop-service.made c.loop-service.invariant c.requires.worker

pub try_take-requires-clause-service : goal.try_take-requires-clause-service
try_take-requires-clause-service g c = omega (arith, c.loop-service-test.true, c.service_count-service-end.ensures)

pub returns-in-Err : goal.returns-in-Err
returns-in-Err g c =
    comes_stops c.args.app.now c.args.shared.now c.args.self.now c.loop-service.self c.try_take.new.self (FirstRefused (TakeRefused c.args.app.now c.args.self.now.number c.loop-service.self) c.loop-service.service)
    (TakeRefused c.args.app.now c.loop-service.self.number c.try_take.new.self c.loop-service.service) (FirstRefused (TakeRefused c.args.app.now c.args.self.now.number c.try_take.new.self) (length c.args.app.now.services.items)) c.loop-service.made c.in-Err.stop c.loop-service.invariant c.in-Err.ensures

pub loop-service-preserved : goal.loop-service-preserved
loop-service-preserved g c =
    take_more c.args.app.now c.args.shared.now c.args.self.now c.loop-service.self c.try_take.new.self c.loop-service.made c.in-Ok.went c.either-made.result c.either-made.ensures c.loop-service.service c.loop-service.invariant c.in-Ok.ensures

pub returns : goal.returns
returns g c = up_to c.args.app.now c.args.shared.now c.args.self.now c.loop-service.self (TakeRefused c.args.app.now c.args.self.now.number c.loop-service.self) (length c.args.app.now.services.items) c.loop-service.service c.loop-service.made (omega (arith, c.loop-service-test.false, c.service_count-service-end.ensures)) c.loop-service.invariant
