use Rattle.std.proofs.Common.{◌<◌, length, refl}
use Rattle.anti_trace.specs.inner.Living.{MetFull}
use Rattle.anti_trace.proofs.Changed.{becomes_set, low_here, process_here}
use Rattle.anti_trace.proofs.processes.Processes.end.Goals as goal

pub full-requires-clause-asks : goal.full-requires-clause-asks
full-requires-clause-asks c =
    let all = c.args.self.now.at in
    let within : c.args.object < length all.items = c.requires.object in
    (c.requires.full c.index_mut.result.now
    (process_here all.items c.args.object c.index_mut-here.result.now c.index_mut-here.ensures.value within c.args.at c.index_mut.result.now c.index_mut.ensures.value c.requires.at)).asks

pub returns : goal.returns
returns c =
    let all = c.args.self.now.at in
    let here = c.index_mut-here.result.now in
    let within : c.args.object < length all.items = c.requires.object in
    becomes_set all.items c.args.object here _ c.index_mut-here.ensures.value within (MetFull c.args.full) c.args.at c.index_mut.result.now c.full.new.self c.index_mut.ensures.value
    (low_here all.items c.args.object here c.index_mut-here.ensures.value within c.args.at c.requires.at) refl
    (record { run = c.full.ensures.run; clock = c.full.ensures.clock; birth = c.full.ensures.birth; role = c.full.ensures.role; full = c.full.ensures.full })
