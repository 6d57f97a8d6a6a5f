use Rattle.std.proofs.Common.{arith}
use Rattle.anti_app.specs.Objects.{object_count}
use Rattle.anti_app.proofs.Runnable.{can_run}
use Rattle.anti_work.specs.inner.Rounds.{FirstRefused, GoesRefused}
use Rattle.anti_work.proofs.Loops.{goes_more, has_list, up_to}
use Rattle.anti_work.proofs.Many.{comes_first, comes_stops, still_worker}
use Rattle.anti_work.proofs.worker.Worker.try_goes.Goals as goal

pub object_count-object-end-requires : goal.object_count-object-end-requires
object_count-object-end-requires g c = can_run c.args.app.now c.requires.sound

pub loop-object-init : goal.loop-object-init
loop-object-init g c = comes_first c.args.app.now c.args.shared.now c.args.self.now (GoesRefused c.args.app.now c.args.self.now) c.requires.of

pub try_goes_at-requires-clause-of : goal.try_goes_at-requires-clause-of
try_goes_at-requires-clause-of g c = c.loop-object.invariant.of

pub try_goes_at-requires-clause-worker : goal.try_goes_at-requires-clause-worker
try_goes_at-requires-clause-worker g c =
    still_worker c.args.app.now c.args.shared.now c.args.self.now c.loop-object.self (FirstRefused (GoesRefused c.args.app.now c.loop-object.self) c.loop-object.object) c.loop-object.made c.loop-object.invariant c.requires.worker

pub try_goes_at-requires-clause-object : goal.try_goes_at-requires-clause-object
try_goes_at-requires-clause-object g c =
    has_list c.args.app.now c.loop-object.self c.loop-object.object
    (still_worker c.args.app.now c.args.shared.now c.args.self.now c.loop-object.self (FirstRefused (GoesRefused c.args.app.now c.loop-object.self) c.loop-object.object) c.loop-object.made c.loop-object.invariant c.requires.worker)
    (omega (arith, c.loop-object-test.true, c.object_count-object-end.ensures))

pub returns-in-Err : goal.returns-in-Err
returns-in-Err g c =
    comes_stops c.args.app.now c.args.shared.now c.args.self.now c.loop-object.self c.try_goes_at.new.self (FirstRefused (GoesRefused c.args.app.now c.loop-object.self) c.loop-object.object)
    (GoesRefused c.args.app.now c.try_goes_at.new.self c.loop-object.object) (FirstRefused (GoesRefused c.args.app.now c.try_goes_at.new.self) (object_count c.args.app.now)) c.loop-object.made c.in-Err.stop c.loop-object.invariant c.in-Err.ensures

pub loop-object-preserved : goal.loop-object-preserved
loop-object-preserved g c =
    goes_more c.args.app.now c.args.shared.now c.args.self.now c.loop-object.self c.try_goes_at.new.self c.loop-object.made c.in-Ok.went c.either-made.result c.either-made.ensures c.loop-object.object c.loop-object.invariant c.in-Ok.ensures

pub returns : goal.returns
returns g c = up_to c.args.app.now c.args.shared.now c.args.self.now c.loop-object.self (GoesRefused c.args.app.now c.loop-object.self) (object_count c.args.app.now) c.loop-object.object c.loop-object.made (omega (arith, c.loop-object-test.false, c.object_count-object-end.ensures)) c.loop-object.invariant
