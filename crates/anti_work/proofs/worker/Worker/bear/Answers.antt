-- The process that is born is the worker's, and where none was born the call was refused.
use Rattle.std.proofs.Common.{Err, refl, ap, ◌∙◌, arith}
use Rattle.anti_work.proofs.Bore.{bear_past, bear_refused, bore_stands, bore_stops, object_within}
use Rattle.anti_work.proofs.worker.Worker.bear.Goals as goal

pub add-requires-clause-there : goal.add-requires-clause-there
add-requires-clause-there g c =
    object_within c.args.app.now c.args.self.now c.requires.worker.0 _ c.args.object c.requires.worker.1 c.requires.of.count (omega (arith, c.if-object-shared.false))

pub returns-in-Ok-keep_awake-clause-tried : goal.returns-in-Ok-keep_awake-clause-tried
returns-in-Ok-keep_awake-clause-tried g c calls stands =
    bore_stands c.args.app.now c.args.self.now calls stands c.args.object c.args.call c.requires.bears
    (record c.args.self.now { passes = c.ask.new.passes; processes = c.add.new.processes; awake = c.keep_awake.new.awake })
    c.in-Made.place c.in-Made.stamp c.in-Made.reply c.in-Made.ensures.asked refl c.requires.own c.in_ok-again.again c.in_ok-again.ensures c.in-Ok.ensures.born refl refl

pub returns-in-Made-clause-tried : goal.returns-in-Made-clause-tried
returns-in-Made-clause-tried g c calls stands =
    bore_stops c.args.app.now c.args.self.now calls stands c.args.object c.args.call c.requires.bears
    (record c.args.self.now { passes = c.ask.new.passes; processes = c.add.new.processes })
    c.in-Made.place c.in-Made.stamp c.in-Made.reply c.in-Made.ensures.asked refl c.requires.own c.in_ok-again.again c.in_ok-again.ensures
    (c.add.ensures.foreign (c.in-Err-Foreign.is ∙ ap Err c.in-Err-Foreign.field-0-is))

pub returns-in-Refused-clause-tried : goal.returns-in-Refused-clause-tried
returns-in-Refused-clause-tried g c calls stands =
    bear_refused c.args.app.now c.args.self.now calls stands c.args.object c.args.call (record c.args.self.now { passes = c.ask.new.passes }) _
    c.in-Refused.ensures.asked refl refl refl refl

pub returns-then-object-shared-clause-tried : goal.returns-then-object-shared-clause-tried
returns-then-object-shared-clause-tried g c calls stands =
    bear_past c.args.app.now c.args.self.now calls stands c.args.object c.args.call
    (omega (arith, c.if-object-shared.true, c.requires.of.count, stands.knows.are.count))
