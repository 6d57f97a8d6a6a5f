-- What the process at the index asks for, if anything, is refused where its object is not there.
use Rattle.std.proofs.Common.{refl, arith}
use Rattle.anti_work.proofs.Composed.{stays_itself}
use Rattle.anti_work.proofs.Went.{go_past, over_refused}
use Rattle.anti_work.proofs.worker.Worker.go.Goals as goal

pub returns-in_default-clause-tried : goal.returns-in_default-clause-tried
returns-in_default-clause-tried g c calls stands = (
  stays_itself c.args.app.now c.args.self.now calls stands,
  over_refused c.args.app.now c.args.self.now calls stands c.args.object c.args.at c.get-process.result.now c.get-process.ensures
      (c.in_default.ensures.none c.args.app.now),
)

pub returns-then-asked-shared-clause-tried : goal.returns-then-asked-shared-clause-tried
returns-then-asked-shared-clause-tried g c calls stands =
    go_past c.args.app.now c.args.self.now calls stands c.args.object c.args.at c.get-process.result.now c.get-process.ensures
    (record { object = c.in-Some.asked.object; actor = _; span = c.in-Some.asked.span; clock = _; call = c.in-Some.asked.call.now })
    (record { actor = refl; clock = refl; wants = c.in-Some.ensures.some })
    (omega (arith, c.if-asked-shared.true, c.requires.of.count, stands.knows.are.count))
