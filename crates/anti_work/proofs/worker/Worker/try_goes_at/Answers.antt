-- Each process that was there at first is there still.
use Rattle.std.proofs.Common.{arith}
use Rattle.anti_work.specs.inner.Rounds.{FirstRefused, GoRefused, GoesRefused}
use Rattle.anti_work.proofs.Loops.{go_more, goes_all, same_count, still_many}
use Rattle.anti_work.proofs.Many.{comes_first, comes_stops, still_worker}
use Rattle.anti_work.proofs.worker.Worker.try_goes_at.Goals as goal

pub loop-at-init : goal.loop-at-init
loop-at-init g c = comes_first c.args.app.now c.args.shared.now c.args.self.now (GoRefused c.args.app.now c.args.object c.args.self.now) c.requires.of

pub go-requires-clause-of : goal.go-requires-clause-of
go-requires-clause-of g c = c.loop-at.invariant.of

pub go-requires-clause-worker : goal.go-requires-clause-worker
go-requires-clause-worker g c =
    still_worker c.args.app.now c.args.shared.now c.args.self.now c.loop-at.self (FirstRefused (GoRefused c.args.app.now c.args.object c.loop-at.self) c.loop-at.at) c.loop-at.made
    c.loop-at.invariant c.requires.worker

pub go-requires-clause-object : goal.go-requires-clause-object
go-requires-clause-object g c =
    same_count c.args.app.now c.args.shared.now c.args.self.now c.loop-at.self (FirstRefused (GoRefused c.args.app.now c.args.object c.loop-at.self) c.loop-at.at) c.loop-at.made
    c.loop-at.invariant c.requires.worker c.args.object c.requires.object

pub go-requires-clause-at : goal.go-requires-clause-at
go-requires-clause-at g c =
    let many =
    still_many c.args.app.now c.args.shared.now c.args.self.now c.loop-at.self (FirstRefused (GoRefused c.args.app.now c.args.object c.loop-at.self) c.loop-at.at) c.loop-at.made
    c.loop-at.invariant c.requires.worker c.args.object in
    omega (arith, many, c.born_count-at-end.ensures, c.loop-at-test.true)

pub returns-in-Err : goal.returns-in-Err
returns-in-Err g c =
    comes_stops c.args.app.now c.args.shared.now c.args.self.now c.loop-at.self c.go.new.self (FirstRefused (GoRefused c.args.app.now c.args.object c.loop-at.self) c.loop-at.at)
    (GoRefused c.args.app.now c.args.object c.go.new.self c.loop-at.at) (GoesRefused c.args.app.now c.go.new.self c.args.object) c.loop-at.made c.in-Err.stop
    c.loop-at.invariant
    (record { of = c.go.ensures.of; number = c.go.ensures.number; routes = c.in-Err.ensures.routes; came = c.in-Err.ensures.tried })

pub loop-at-preserved : goal.loop-at-preserved
loop-at-preserved g c =
    go_more c.args.app.now c.args.shared.now c.args.self.now c.loop-at.self c.go.new.self c.loop-at.made c.in-Ok.went c.either-made.result c.either-made.ensures c.args.object c.loop-at.at
    c.loop-at.invariant
    (record { of = c.go.ensures.of; number = c.go.ensures.number; routes = c.in-Ok.ensures.routes; came = c.in-Ok.ensures.tried })

pub returns : goal.returns
returns g c =
    goes_all c.args.app.now c.args.shared.now c.args.self.now c.loop-at.self c.args.object c.born_count-at-end.result c.loop-at.at c.loop-at.made c.born_count-at-end.ensures
    c.loop-at-test.false c.loop-at.invariant
