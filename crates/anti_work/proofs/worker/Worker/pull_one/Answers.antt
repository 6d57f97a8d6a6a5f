use Rattle.anti_work.specs.inner.Rounds.{Anything, PullRefused}
use Rattle.anti_work.proofs.AnyCame.{any_of, any_then}
use Rattle.anti_work.proofs.Many.{still_worker}
use Rattle.anti_work.proofs.worker.Worker.pull_one.Goals as goal

pub try_pull-requires-clause-of : goal.try_pull-requires-clause-of
try_pull-requires-clause-of g c = c.in-Ok.ensures.of

pub try_pull-requires-clause-worker : goal.try_pull-requires-clause-worker
try_pull-requires-clause-worker g c = still_worker c.args.app.now c.args.shared.now c.args.self.now c.draw_pull.new.self Anything _ c.in-Ok.ensures c.requires.worker

pub returns-else-made : goal.returns-else-made
returns-else-made g c =
    any_then c.args.app.now c.args.shared.now c.args.self.now c.draw_pull.new.self c.try_pull.new.self c.in-Ok.made c.if-made.false c.try_pull.result c.in-Ok.ensures
    (any_of c.args.app.now c.args.shared.now c.draw_pull.new.self c.try_pull.new.self (PullRefused c.args.app.now c.draw_pull.new.self.number c.try_pull.new.self c.args.sub) c.try_pull.result c.try_pull.ensures)
