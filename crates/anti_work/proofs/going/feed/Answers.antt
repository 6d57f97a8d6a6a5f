-- The process that is read there may be given a reply, and takes it over when there is room for it.
use Rattle.anti_app.proofs.Runnable.{can_run}
use Rattle.anti_trace.specs.inner.Living.{lists}
use Rattle.anti_work.proofs.Went.{fed_is}
use Rattle.anti_work.proofs.going.feed.Goals as goal

pub advance-requires-clause-app : goal.advance-requires-clause-app
advance-requires-clause-app c = can_run c.args.app.now c.requires.sound

pub advance-requires-clause-run : goal.advance-requires-clause-run
advance-requires-clause-run c = (c.requires.fed c.get.result.now c.get.ensures).run

pub returns-clause-fed : goal.returns-clause-fed
returns-clause-fed c =
    fed_is c.args.app.now (lists c.args.processes.now) (lists c.make_room.new.self) (lists c.take_over.new.self) c.args.object c.args.at c.args.stamp c.args.reply.now
    c.get.result.now c.get.ensures c.in-Ok.advance (c.in-Ok.ensures.goes (c.requires.fed c.get.result.now c.get.ensures).going) c.in-Ok.ensures.run c.in-Ok.ensures.full
    c.make_room.ensures.becomes c.take_over.ensures
