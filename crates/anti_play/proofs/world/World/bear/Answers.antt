use Rattle.std.proofs.Common.{arith, ◌≡◌, ◌++◌, ◌∷◌, [], List, Ok, Some, refl, subst}
use Rattle.std.proofs.lemmas.Grind.{common_steps}
use Rattle.anti_kind.specs.declared.entry.Entry.{Entry}
use Rattle.anti_proc.specs.declared.process.Process.{Process}
use Rattle.anti_play.specs.Schedule.{bearing, made_at}
use Rattle.anti_trace.specs.inner.Living.{born_at, Changes, lists}
use Rattle.anti_play.specs.inner.Standing.{WorldStands}
use Rattle.anti_trace.proofs.Changed.{changes_then}
use Rattle.anti_trace.proofs.Followed.{reserved_are}
use Rattle.anti_play.proofs.NextEntry.{outcome_is}
use Rattle.anti_play.proofs.Stepped.{starts_task, may_grow, has_list}
use Rattle.anti_play.proofs.Chose.{bear_done, chose_kept}
use Rattle.anti_play.proofs.world.World.bear.Goals as goal
use Rattle.anti_play.proofs.world.World.bear.Goals.{In-Ok}

-- the entry that is made
made : (c : In-Ok) (trace : List Entry) → WorldStands c.args.app.now c.args.self.now trace
    → made_at c.args.app.now trace (bearing trace c.args.object c.args.call) ≡ Some c.in-Ok.due.entry
made c trace s =
    outcome_is c.args.app.now trace (bearing trace c.args.object c.args.call) c.in_ok-due.field-0 (Ok c.in-Ok.due) c.in-Ok.is
    (c.in_ok-due.ensures.outcome c.args.app.now trace c.requires.sound s refl)

pub born-requires-clause-starts : goal.born-requires-clause-starts
born-requires-clause-starts c =
    let trace = c.requires.world.trace in
    let s = c.requires.world.stands in
    starts_task c.args.app.now c.requires.sound c.args.self.now trace s (bearing trace c.args.object c.args.call) (c.requires.born, refl) refl c.in-Ok.due.entry
    (made ((goal.at.born-requires-clause-starts c).In-Ok) trace s) c.requires.born

pub make_entry-requires-clause-grow : goal.make_entry-requires-clause-grow
make_entry-requires-clause-grow c =
    let trace = c.requires.world.trace in
    let s = c.requires.world.stands in
    may_grow c.args.app.now c.requires.sound c.args.self.now trace s (bearing trace c.args.object c.args.call) (c.requires.born, refl) refl c.in-Ok.due.entry
    (made ((goal.at.make_entry-requires-clause-grow c).In-Ok) trace s)

pub reserve-requires : goal.reserve-requires
reserve-requires c =
    let trace = c.requires.world.trace in
    let s = c.requires.world.stands in
    has_list c.args.app.now c.requires.sound c.args.self.now trace s (bearing trace c.args.object c.args.call) (c.requires.born, refl) refl c.in-Ok.due.entry (made ((goal.at.reserve-requires c).In-Ok) trace s)

pub returns-in_err-reserve : goal.returns-in_err-reserve
returns-in_err-reserve c = λ trace s.
    chose_kept c.args.app.now c.args.self.now _ trace _ _ c.from_residual-in_err-reserve.ensures.0 s s.objects
    (reserved_are c.args.app.now (lists c.args.self.now.processes) _ trace c.in-Ok.due.entry.object s.processes c.reserve.ensures.changes) s.trail refl

pub returns-in_err-process : goal.returns-in_err-process
returns-in_err-process c = λ trace s.
    chose_kept c.args.app.now c.args.self.now _ trace _ _ c.from_residual-in_err-process.ensures.0 s s.objects
    (reserved_are c.args.app.now (lists c.args.self.now.processes) _ trace c.in-Ok.due.entry.object s.processes c.reserve.ensures.changes) s.trail refl

pub returns-in-Err : goal.returns-in-Err
returns-in-Err c = λ trace s.
    chose_kept c.args.app.now c.args.self.now _ trace _ _ c.give_up.ensures s
    (c.in-Err.ensures.err c.args.app.now trace s.objects)
    (reserved_are c.args.app.now (lists c.args.self.now.processes) _ trace c.in-Ok.due.entry.object s.processes c.reserve.ensures.changes) s.trail refl

pub returns-in-Ok-make_entry : goal.returns-in-Ok-make_entry
returns-in-Ok-make_entry c = λ trace s.
    let object = c.in-Ok.due.entry.object in
    let p = c.in_ok-process.process in
    let before = lists c.args.self.now.processes in
    let between = lists c.reserve.new.self in
    let after = lists c.put.new.self in
    let room = c.reserve.ensures.changes in
    let added : Changes before after object (born_at before object ++ p ∷ []) =
    changes_then before between after object (born_at before object ++ p ∷ []) room
    (subst (λ (ps : List Process). Changes between after object (ps ++ p ∷ [])) room.here_are c.put.ensures) in
    bear_done c.args.app.now c.requires.sound c.args.self.now _ trace c.args.object c.args.call c.in-Ok.due.entry p
    s c.requires.born (made ((goal.at.returns-in-Ok-make_entry c).In-Ok) trace s)
    (c.in-Ok-make_entry.ensures.stand c.args.app.now)
    added s.trail refl
    (record {
      run = c.in_ok-process.ensures.run;
      tree = c.in_ok-process.ensures.stands;
      clock = c.in_ok-process.ensures.clock;
      birth = c.in_ok-process.ensures.birth;
      role = c.in_ok-process.ensures.role;
      full = c.in_ok-process.ensures.full;
    })

pub returns-in_err-due : goal.returns-in_err-due
returns-in_err-due c = grind (arith, common_steps)

pub put-requires-clause-object : goal.put-requires-clause-object
put-requires-clause-object c = grind (arith, common_steps)
