-- Which processes are awake says nothing of a worker.
use Rattle.anti_work.proofs.AnyCame.{drawn_behind, plain_behind, same_comes, same_routes, same_worker}
use Rattle.anti_work.proofs.worker.Worker.round.Goals as goal

pub plain_round-requires-clause-of : goal.plain_round-requires-clause-of
plain_round-requires-clause-of g c = (same_comes c.args.app.now c.args.shared.now c.args.self.now c.take_awake-awake.new.self c.take_awake-awake.ensures c.requires.of).of

pub plain_round-requires-clause-worker : goal.plain_round-requires-clause-worker
plain_round-requires-clause-worker g c = same_worker c.args.app.now c.args.shared.now c.args.self.now c.take_awake-awake.new.self c.take_awake-awake.ensures c.requires.worker

pub plain_round-requires-clause-routes : goal.plain_round-requires-clause-routes
plain_round-requires-clause-routes g c = same_routes c.args.app.now c.args.shared.now c.args.self.now c.take_awake-awake.new.self c.take_awake-awake.ensures c.requires.routes

pub returns-then-plain : goal.returns-then-plain
returns-then-plain g c =
    plain_behind c.args.app.now c.args.shared.now c.args.self.now c.take_awake-awake.new.self c.plain_round.new.self c.take_awake-awake.ensures c.requires.of c.args.plain
    c.plain_round.result c.plain_round.ensures

pub drawn_round-requires-clause-of : goal.drawn_round-requires-clause-of
drawn_round-requires-clause-of g c = (same_comes c.args.app.now c.args.shared.now c.args.self.now c.take_awake-awake.new.self c.take_awake-awake.ensures c.requires.of).of

pub drawn_round-requires-clause-worker : goal.drawn_round-requires-clause-worker
drawn_round-requires-clause-worker g c = same_worker c.args.app.now c.args.shared.now c.args.self.now c.take_awake-awake.new.self c.take_awake-awake.ensures c.requires.worker

pub returns : goal.returns
returns g c =
    drawn_behind c.args.app.now c.args.shared.now c.args.self.now c.take_awake-awake.new.self c.drawn_round.new.self c.take_awake-awake.ensures c.requires.of c.args.plain
    c.if-plain.false c.drawn_round.result c.drawn_round.ensures
