use Rattle.std.proofs.Common.{length, arith}
use Rattle.anti_app.proofs.SoundLemmas.{app_known}
use Rattle.anti_work.specs.inner.Rounds.{FirstRefused, PullRefused}
use Rattle.anti_work.proofs.Loops.{pull_more, up_to}
use Rattle.anti_work.proofs.Many.{comes_first, comes_stops, still_worker}
use Rattle.anti_work.proofs.worker.Worker.try_pulls.Goals as goal

pub sub_count-sub-end-requires : goal.sub_count-sub-end-requires
sub_count-sub-end-requires g c = (app_known c.args.app.now c.requires.sound).few_subs

pub loop-sub-init : goal.loop-sub-init
loop-sub-init g c = comes_first c.args.app.now c.args.shared.now c.args.self.now (PullRefused c.args.app.now c.args.self.now.number c.args.self.now) c.requires.of

pub try_pull-requires-clause-of : goal.try_pull-requires-clause-of
try_pull-requires-clause-of g c = c.loop-sub.invariant.of

pub try_pull-requires-clause-worker : goal.try_pull-requires-clause-worker
try_pull-requires-clause-worker g c =
    still_worker c.args.app.now c.args.shared.now c.args.self.now c.loop-sub.self (FirstRefused (PullRefused c.args.app.now c.args.self.now.number c.loop-sub.self) c.loop-sub.sub) c.loop-sub.made c.loop-sub.invariant c.requires.worker

pub try_pull-requires-clause-sub : goal.try_pull-requires-clause-sub
try_pull-requires-clause-sub g c = omega (arith, c.loop-sub-test.true, c.sub_count-sub-end.ensures)

pub returns-in-Err : goal.returns-in-Err
returns-in-Err g c =
    comes_stops c.args.app.now c.args.shared.now c.args.self.now c.loop-sub.self c.try_pull.new.self (FirstRefused (PullRefused c.args.app.now c.args.self.now.number c.loop-sub.self) c.loop-sub.sub)
    (PullRefused c.args.app.now c.loop-sub.self.number c.try_pull.new.self c.loop-sub.sub) (FirstRefused (PullRefused c.args.app.now c.args.self.now.number c.try_pull.new.self) (length c.args.app.now.subs.items)) c.loop-sub.made c.in-Err.stop c.loop-sub.invariant c.in-Err.ensures

pub loop-sub-preserved : goal.loop-sub-preserved
loop-sub-preserved g c =
    pull_more c.args.app.now c.args.shared.now c.args.self.now c.loop-sub.self c.try_pull.new.self c.loop-sub.made c.in-Ok.went c.either-made.result c.either-made.ensures c.loop-sub.sub c.loop-sub.invariant c.in-Ok.ensures

pub returns : goal.returns
returns g c = up_to c.args.app.now c.args.shared.now c.args.self.now c.loop-sub.self (PullRefused c.args.app.now c.args.self.now.number c.loop-sub.self) (length c.args.app.now.subs.items) c.loop-sub.sub c.loop-sub.made (omega (arith, c.loop-sub-test.false, c.sub_count-sub-end.ensures)) c.loop-sub.invariant
