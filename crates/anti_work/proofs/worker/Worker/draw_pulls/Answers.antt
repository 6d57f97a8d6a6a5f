use Rattle.std.proofs.Common.{arith}
use Rattle.anti_app.proofs.SoundLemmas.{app_known}
use Rattle.anti_work.specs.inner.Rounds.{Anything}
use Rattle.anti_work.proofs.AnyCame.{any_itself, any_more, any_stops}
use Rattle.anti_work.proofs.Many.{still_worker}
use Rattle.anti_work.proofs.worker.Worker.draw_pulls.Goals as goal

pub loop-sub-init : goal.loop-sub-init
loop-sub-init g c = any_itself c.args.app.now c.args.shared.now c.args.self.now c.requires.of

pub pull_one-requires-clause-of : goal.pull_one-requires-clause-of
pull_one-requires-clause-of g c = c.loop-sub.invariant.of

pub pull_one-requires-clause-worker : goal.pull_one-requires-clause-worker
pull_one-requires-clause-worker g c =
    still_worker c.args.app.now c.args.shared.now c.args.self.now c.loop-sub.self Anything c.loop-sub.made c.loop-sub.invariant c.requires.worker

pub sub_count-sub-end-requires : goal.sub_count-sub-end-requires
sub_count-sub-end-requires g c = (app_known c.args.app.now c.requires.sound).few_subs

pub pull_one-requires-clause-sub : goal.pull_one-requires-clause-sub
pull_one-requires-clause-sub g c = omega (arith, c.loop-sub-test.true, c.sub_count-sub-end.ensures)

pub returns-in-Err : goal.returns-in-Err
returns-in-Err g c =
    any_stops c.args.app.now c.args.shared.now c.args.self.now c.loop-sub.self c.pull_one.new.self c.loop-sub.made c.in-Err.stop c.loop-sub.invariant c.in-Err.ensures

pub loop-sub-preserved : goal.loop-sub-preserved
loop-sub-preserved g c =
    any_more c.args.app.now c.args.shared.now c.args.self.now c.loop-sub.self c.pull_one.new.self c.loop-sub.made c.in-Ok.went c.either-made.result c.either-made.ensures
    c.loop-sub.invariant c.in-Ok.ensures

pub returns : goal.returns
returns g c = c.loop-sub.invariant
