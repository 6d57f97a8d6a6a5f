use Rattle.std.proofs.Common.{◌≡◌, ◌<◌, length, arith}
use Rattle.anti_trace.proofs.Followed.{bore, lost, next_task, next_there, reserved_are}
use Rattle.anti_trace.proofs.processes.Processes.bear.Goals as goal

pub reserve-requires : goal.reserve-requires
reserve-requires c = next_there c.args.app.now c.requires.sound c.args.self.now.at.items c.args.entry.now c.args.birth c.requires.next c.requires.unborn

pub returns-in_err-reserve : goal.returns-in_err-reserve
returns-in_err-reserve c = λ before after legal are.
    lost _ _ c.from_residual.result c.from_residual.ensures.0
    (reserved_are c.args.app.now c.args.self.now.at.items c.reserve.new.self.at.items before c.args.birth.object are c.reserve.ensures.changes)

pub returns-in_err-process : goal.returns-in_err-process
returns-in_err-process c = λ before after legal are.
    lost _ _ c.from_residual-in_err-process.result c.from_residual-in_err-process.ensures.0
    (reserved_are c.args.app.now c.args.self.now.at.items c.reserve.new.self.at.items before c.args.birth.object are c.reserve.ensures.changes)

pub born-requires-clause-starts : goal.born-requires-clause-starts
born-requires-clause-starts c = next_task c.args.app.now c.requires.sound c.args.self.now.at.items c.args.entry.now c.args.birth c.requires.next c.requires.unborn

pub put-requires-clause-object : goal.put-requires-clause-object
put-requires-clause-object c =
    let there : c.args.birth.object < length c.args.self.now.at.items = next_there c.args.app.now c.requires.sound c.args.self.now.at.items c.args.entry.now c.args.birth c.requires.next c.requires.unborn in
    let count : length c.reserve.new.self.at.items ≡ length c.args.self.now.at.items = c.reserve.ensures.changes.count in
    omega arith

pub returns : goal.returns
returns c = λ before after legal are.
    bore c.args.app.now c.requires.sound c.args.self.now.at.items c.args.entry.now c.args.birth before after legal are c.requires.next.by c.requires.unborn
    c.reserve.new.self.at.items c.put.new.self.at.items c.in_ok-process.process c.reserve.ensures.changes
    (record {
      run = c.in_ok-process.ensures.run;
      tree = c.in_ok-process.ensures.stands;
      clock = c.in_ok-process.ensures.clock;
      birth = c.in_ok-process.ensures.birth;
      role = c.in_ok-process.ensures.role;
      full = c.in_ok-process.ensures.full;
    })
    c.put.ensures
