-- Behind the room that was made stands the process that was born.
use Rattle.anti_app.proofs.Runnable.{can_run}
use Rattle.anti_trace.specs.inner.Living.{lists}
use Rattle.anti_work.proofs.Bore.{has_born}
use Rattle.anti_work.proofs.bearing.add.Goals as goal

pub born-requires : goal.born-requires
born-requires c = can_run c.args.app.now c.requires.sound

pub returns-clause-born : goal.returns-clause-born
returns-clause-born c =
    has_born c.args.app.now c.args.entry.now (lists c.args.processes.now) (lists c.reserve.new.self) (lists c.put.new.self) c.in-Ok.process
    (record {
      run = c.in-Ok.ensures.run;
      tree = c.in-Ok.ensures.stands;
      clock = c.in-Ok.ensures.clock;
      birth = c.in-Ok.ensures.birth;
      role = c.in-Ok.ensures.role;
      full = c.in-Ok.ensures.full;
    }) c.reserve.ensures.changes c.put.ensures
