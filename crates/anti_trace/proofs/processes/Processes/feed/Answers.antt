use Rattle.std.proofs.lemmas.Grind.{common_steps}
use Rattle.std.proofs.Common.{◌≡◌, ◌<◌, length, arith}
use Rattle.anti_trace.proofs.Followed.{fed, found_there, lost, next_reply, next_run, roomy_are}
use Rattle.anti_trace.proofs.processes.Processes.feed.Goals as goal

pub get-requires-clause-object : goal.get-requires-clause-object
get-requires-clause-object c = found_there c.args.self.now.at.items c.args.birth c.args.at c.requires.found

pub advance-requires-clause-known : goal.advance-requires-clause-known
advance-requires-clause-known c = next_reply c.args.app.now c.requires.sound c.args.self.now.at.items c.args.entry.now c.args.birth c.requires.next

pub advance-requires-clause-run : goal.advance-requires-clause-run
advance-requires-clause-run c =
    next_run c.args.app.now c.requires.sound c.args.self.now.at.items c.args.entry.now c.args.birth c.requires.next c.args.at c.requires.found c.get.result.now c.get.ensures

pub make_room-requires-clause-object : goal.make_room-requires-clause-object
make_room-requires-clause-object c = found_there c.args.self.now.at.items c.args.birth c.args.at c.requires.found

pub returns-in_err-make_room : goal.returns-in_err-make_room
returns-in_err-make_room c = λ before after legal are.
    lost _ _ c.from_residual-in_err-make_room.result c.from_residual-in_err-make_room.ensures.0
    (roomy_are c.args.app.now c.args.self.now.at.items before are c.args.birth c.args.at c.requires.found c.make_room.new.self.at.items c.make_room.ensures.becomes)

pub take_over-requires-clause-object : goal.take_over-requires-clause-object
take_over-requires-clause-object c =
    let there : c.args.birth.object < length c.args.self.now.at.items = found_there c.args.self.now.at.items c.args.birth c.args.at c.requires.found in
    let count : length c.make_room.new.self.at.items ≡ length c.args.self.now.at.items = c.make_room.ensures.becomes.changes.count in
    omega arith

pub returns : goal.returns
returns c = λ before after legal are.
    fed c.args.app.now c.requires.sound c.args.self.now.at.items c.args.entry.now c.args.birth before after legal are c.requires.next.by
    c.args.at c.requires.found c.get.result.now c.get.ensures c.make_room.new.self.at.items c.take_over.new.self.at.items c.in_ok-advance.advance
    c.in_ok-advance.ensures.goes c.in_ok-advance.ensures.run c.in_ok-advance.ensures.full c.make_room.ensures.becomes c.take_over.ensures

pub get-requires-clause-at : goal.get-requires-clause-at
get-requires-clause-at c = grind (arith, common_steps)

pub make_room-requires-clause-at : goal.make_room-requires-clause-at
make_room-requires-clause-at c = grind (arith, common_steps)

pub take_over-requires-clause-at : goal.take_over-requires-clause-at
take_over-requires-clause-at c = grind (arith, common_steps)
