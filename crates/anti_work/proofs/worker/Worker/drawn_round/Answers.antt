use Rattle.anti_work.specs.inner.Rounds.{Anything}
use Rattle.anti_work.proofs.AnyCame.{any_itself, any_more, any_stops}
use Rattle.anti_work.proofs.Many.{still_worker}
use Rattle.anti_work.proofs.worker.Worker.drawn_round.Goals as goal

pub loop-kind-init : goal.loop-kind-init
loop-kind-init g c = any_itself c.args.app.now c.args.shared.now c.args.self.now c.requires.of

pub draw_kind-requires-clause-of : goal.draw_kind-requires-clause-of
draw_kind-requires-clause-of g c = c.loop-kind.invariant.of

pub draw_kind-requires-clause-worker : goal.draw_kind-requires-clause-worker
draw_kind-requires-clause-worker g c =
    still_worker c.args.app.now c.args.shared.now c.args.self.now c.loop-kind.self Anything c.loop-kind.made c.loop-kind.invariant c.requires.worker

pub returns-in-Err : goal.returns-in-Err
returns-in-Err g c =
    any_stops c.args.app.now c.args.shared.now c.args.self.now c.loop-kind.self c.draw_kind.new.self c.loop-kind.made c.in-Err.stop c.loop-kind.invariant c.in-Err.ensures

pub loop-kind-preserved : goal.loop-kind-preserved
loop-kind-preserved g c =
    any_more c.args.app.now c.args.shared.now c.args.self.now c.loop-kind.self c.draw_kind.new.self c.loop-kind.made c.in-Ok.went c.either-made.result c.either-made.ensures
    c.loop-kind.invariant c.in-Ok.ensures

pub returns : goal.returns
returns g c = c.loop-kind.invariant
