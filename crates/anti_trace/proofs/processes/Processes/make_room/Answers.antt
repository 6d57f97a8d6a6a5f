use Rattle.std.proofs.Common.{◌<◌, length, refl}
use Rattle.std.proofs.lemmas.Result.{on_ok_weaker}
use Rattle.anti_proc.specs.inner.Standing.{HasRoom}
use Rattle.anti_trace.specs.inner.Living.{MakesRoom}
use Rattle.anti_trace.proofs.Changed.{becomes_set, is_at_set, low_here}
use Rattle.anti_trace.proofs.processes.Processes.make_room.Goals as goal

pub returns-clause-becomes : goal.returns-clause-becomes
returns-clause-becomes c =
    let all = c.args.self.now.at in
    let here = c.index_mut-here.result.now in
    let within : c.args.object < length all.items = c.requires.object in
    becomes_set all.items c.args.object here _ c.index_mut-here.ensures.value within MakesRoom c.args.at c.index_mut.result.now c.make_room.new.self c.index_mut.ensures.value
    (low_here all.items c.args.object here c.index_mut-here.ensures.value within c.args.at c.requires.at) refl
    (record {
      tree = c.make_room.ensures.stands;
      run = c.make_room.ensures.run;
      advance = c.make_room.ensures.advance;
      spans = c.make_room.ensures.spans;
      clock = c.make_room.ensures.clock;
      birth = c.make_room.ensures.birth;
      role = c.make_room.ensures.role;
      full = c.make_room.ensures.full;
    })

pub returns-clause-room : goal.returns-clause-room
returns-clause-room c =
    let all = c.args.self.now.at in
    let here = c.index_mut-here.result.now in
    let within : c.args.object < length all.items = c.requires.object in
    on_ok_weaker c.make_room.result
    (is_at_set all.items c.args.object here _ c.index_mut-here.ensures.value within HasRoom c.args.at c.make_room.new.self
    (low_here all.items c.args.object here c.index_mut-here.ensures.value within c.args.at c.requires.at) refl)
    c.make_room.ensures.room
