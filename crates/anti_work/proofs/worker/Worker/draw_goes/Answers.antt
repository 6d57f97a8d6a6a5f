use Rattle.anti_work.specs.inner.Rounds.{Anything}
use Rattle.anti_work.proofs.AnyCame.{any_itself, any_more, any_stops}
use Rattle.anti_work.proofs.Many.{still_worker}
use Rattle.anti_work.proofs.worker.Worker.draw_goes.Goals as goal

pub loop-i-init : goal.loop-i-init
loop-i-init g c = any_itself c.args.app.now c.args.shared.now c.args.self.now c.requires.of

pub go_awake-requires-clause-of : goal.go_awake-requires-clause-of
go_awake-requires-clause-of g c = c.loop-i.invariant.of

pub go_awake-requires-clause-worker : goal.go_awake-requires-clause-worker
go_awake-requires-clause-worker g c =
    still_worker c.args.app.now c.args.shared.now c.args.self.now c.loop-i.self Anything c.loop-i.made c.loop-i.invariant c.requires.worker

pub returns-in-Err : goal.returns-in-Err
returns-in-Err g c =
    any_stops c.args.app.now c.args.shared.now c.args.self.now c.loop-i.self c.go_awake.new.self c.loop-i.made c.in-Err.stop c.loop-i.invariant c.in-Err.ensures

pub loop-i-preserved : goal.loop-i-preserved
loop-i-preserved g c =
    any_more c.args.app.now c.args.shared.now c.args.self.now c.loop-i.self c.go_awake.new.self c.loop-i.made c.in-Ok.went c.either-made.result c.either-made.ensures
    c.loop-i.invariant c.in-Ok.ensures

pub returns : goal.returns
returns g c = c.loop-i.invariant
