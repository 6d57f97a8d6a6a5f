use Rattle.std.proofs.Common.{Ok, Err, refl}
use Rattle.anti_play.specs.Schedule.{carrying}
use Rattle.anti_play.proofs.NextEntry.{outcome_is, refused_none}
use Rattle.anti_play.proofs.Stepped.{may_grow}
use Rattle.anti_play.proofs.Chose.{carry_done, chose_kept, chose_none}
use Rattle.anti_play.proofs.world.World.carry.Goals as goal

pub returns-in_err-due : goal.returns-in_err-due
returns-in_err-due c = λ app trace sound s. chose_kept app c.args.self.now _ trace _ _ c.from_residual.ensures.0 s s.objects s.processes s.trail refl

pub returns-in_default : goal.returns-in_default
returns-in_default c = λ app trace sound s.
    let q = carrying trace c.args.object c.args.call in
    chose_none app c.args.self.now trace _
    (refused_none app trace q c.in_default.field-0 (outcome_is app trace q c.in_ok-due.field-0 (Err c.in_default.field-0) c.in_default.is (c.in_ok-due.ensures.outcome app trace sound s s.carrier))) s

pub make_entry-requires-clause-grow : goal.make_entry-requires-clause-grow
make_entry-requires-clause-grow c =
    let w = c.requires.world in
    let q = carrying w.trace c.args.object c.args.call in
    may_grow w.app w.sound c.args.self.now w.trace w.stands q (c.requires.carried, refl) refl c.in-Ok.due.entry
    (outcome_is w.app w.trace q c.in_ok-due.field-0 (Ok c.in-Ok.due) c.in-Ok.is (c.in_ok-due.ensures.outcome w.app w.trace w.sound w.stands w.stands.carrier))

pub returns-in_err-make_entry : goal.returns-in_err-make_entry
returns-in_err-make_entry c = λ app trace sound s.
    chose_kept app c.args.self.now _ trace _ _ c.from_residual-in_err-make_entry.ensures.0 s (c.in_err-make_entry.ensures.err app trace s.objects) s.processes s.trail refl

pub returns : goal.returns
returns c = λ app trace sound s.
    let q = carrying trace c.args.object c.args.call in
    carry_done app sound c.args.self.now _ trace c.args.object c.args.call c.in-Ok.due.entry s c.requires.carried
    (outcome_is app trace q c.in_ok-due.field-0 (Ok c.in-Ok.due) c.in-Ok.is (c.in_ok-due.ensures.outcome app trace sound s s.carrier))
    (c.in_ok-make_entry.ensures.stand app) s.processes s.trail refl
