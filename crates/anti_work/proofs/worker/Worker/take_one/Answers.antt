use Rattle.anti_work.specs.inner.Rounds.{Anything, TakeRefused}
use Rattle.anti_work.proofs.AnyCame.{any_of, any_then}
use Rattle.anti_work.proofs.Many.{still_worker}
use Rattle.anti_work.proofs.worker.Worker.take_one.Goals as goal

pub try_take-requires-clause-of : goal.try_take-requires-clause-of
try_take-requires-clause-of g c = c.in-Ok.ensures.of

pub try_take-requires-clause-worker : goal.try_take-requires-clause-worker
try_take-requires-clause-worker g c = still_worker c.args.app.now c.args.shared.now c.args.self.now c.draw_take.new.self Anything _ c.in-Ok.ensures c.requires.worker

pub returns-else-made : goal.returns-else-made
returns-else-made g c =
    any_then c.args.app.now c.args.shared.now c.args.self.now c.draw_take.new.self c.try_take.new.self c.in-Ok.made c.if-made.false c.try_take.result c.in-Ok.ensures
    (any_of c.args.app.now c.args.shared.now c.draw_take.new.self c.try_take.new.self (TakeRefused c.args.app.now c.draw_take.new.self.number c.try_take.new.self c.args.service) c.try_take.result c.try_take.ensures)
