-- The process at the index may be given the reply, and where none came it was refused.
use Rattle.std.proofs.Common.{Err, refl, ap, ◌∙◌}
use Rattle.anti_trace.specs.inner.Living.{born_at, lists}
use Rattle.anti_work.proofs.Went.{go_refused, may_feed, process_at, went_stands, went_stops}
use Rattle.anti_work.proofs.worker.Worker.go_with.Goals as goal

pub feed-requires-clause-fed : goal.feed-requires-clause-fed
feed-requires-clause-fed g c p is = may_feed c.args.app.now c.args.self.now c.requires.worker.0 c.requires.worker.1 c.args.object c.args.at p is

pub returns-in-Ok-keep_awake-clause-tried : goal.returns-in-Ok-keep_awake-clause-tried
returns-in-Ok-keep_awake-clause-tried g c calls stands =
    let here = process_at (born_at (lists c.args.self.now.processes) c.args.object) c.args.at c.requires.at in
    went_stands c.args.app.now c.args.self.now calls stands c.args.object c.args.at here.0 here.1 c.args.asking (c.requires.asks here.0 here.1)
    (record c.args.self.now { passes = c.ask.new.passes; processes = c.feed.new.processes; awake = c.keep_awake.new.awake })
    c.in-Made.place c.in-Made.stamp c.in-Made.reply c.in-Made.ensures.asked refl c.requires.sound c.in-Ok.ensures.fed refl refl

pub returns-in-Made-clause-tried : goal.returns-in-Made-clause-tried
returns-in-Made-clause-tried g c calls stands =
    let here = process_at (born_at (lists c.args.self.now.processes) c.args.object) c.args.at c.requires.at in
    went_stops c.args.app.now c.args.self.now calls stands c.args.object c.args.at here.0 here.1 c.args.asking (c.requires.asks here.0 here.1)
    (record c.args.self.now { passes = c.ask.new.passes; processes = c.feed.new.processes })
    c.in-Made.place c.in-Made.stamp c.in-Made.reply c.in-Made.ensures.asked refl c.requires.sound
    (c.feed.ensures.foreign (c.in-Err-Foreign.is ∙ ap Err c.in-Err-Foreign.field-0-is))

pub returns-in-Refused-clause-tried : goal.returns-in-Refused-clause-tried
returns-in-Refused-clause-tried g c calls stands =
    let here = process_at (born_at (lists c.args.self.now.processes) c.args.object) c.args.at c.requires.at in
    go_refused c.args.app.now c.args.self.now calls stands c.args.object c.args.at here.0 here.1 c.args.asking (c.requires.asks here.0 here.1)
    (record c.args.self.now { passes = c.ask.new.passes }) _ c.in-Refused.ensures.asked refl refl refl refl
