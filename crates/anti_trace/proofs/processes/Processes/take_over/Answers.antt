use Rattle.std.proofs.Common.{◌<◌, length, refl}
use Rattle.anti_trace.specs.inner.Living.{TakesOver}
use Rattle.anti_trace.proofs.Changed.{becomes_set, low_here}
use Rattle.anti_trace.proofs.processes.Processes.take_over.Goals as goal

pub returns : goal.returns
returns c =
    let all = c.args.self.now.at in
    let here = c.index_mut-here.result.now in
    let within : c.args.object < length all.items = c.requires.object in
    becomes_set all.items c.args.object here _ c.index_mut-here.ensures.value within (TakesOver c.args.stamp c.args.advance) c.args.at c.index_mut.result.now c.take.new.self c.index_mut.ensures.value
    (low_here all.items c.args.object here c.index_mut-here.ensures.value within c.args.at c.requires.at) refl
    (record {
      tree = λ app. c.take.ensures.stands app;
      run = c.take.ensures.run;
      clock = c.take.ensures.clock;
      birth = c.take.ensures.birth;
      role = c.take.ensures.role;
      full = c.take.ensures.full;
    })
