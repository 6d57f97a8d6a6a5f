use Rattle.std.proofs.Common.{arith, List, ◌≡◌, Result, Ok, Err, refl, ap, sym, ◌∙◌, subst}
use Rattle.std.proofs.lemmas.Grind.{common_steps}
use Rattle.anti_kind.specs.declared.actor.Actor.{Actor}
use Rattle.anti_kind.specs.declared.actor.Actor.TheVariants.{Process as Acting}
use Rattle.anti_kind.specs.declared.refusal.Refusal.{Refusal}
use Rattle.anti_kind.specs.declared.refusal.Refusal.TheVariants.{NotYet, Full, Spent}
use Rattle.anti_kind.specs.declared.entry.Entry.{Entry}
use Rattle.anti_play.specs.declared.world.DueEntry.{DueEntry}
use Rattle.anti_play.specs.Schedule.{asking_at, clock_of}
use Rattle.anti_trace.specs.inner.Living.{MayMeetFull, born_at, lists}
use Rattle.anti_play.specs.inner.Standing.{IsOutcome, WorldStands, asked_in, outcome_entry}
use Rattle.anti_play.proofs.NextEntry.{outcome_is}
use Rattle.anti_play.proofs.GoNext.{is_next_found}
use Rattle.anti_play.proofs.GoOn.{found_again, may_meet_full, goes_clock, go_waits, go_ended, stops_waits, stops_ended}
use Rattle.anti_play.proofs.world.World.make_next.Goals as goal
use Rattle.anti_play.proofs.world.World.make_next.Goals.{In_ok-due}

-- what came of the call
came : (c : In_ok-due) (trace : List Entry) → WorldStands c.args.app.now c.args.self.now trace
    → (then : Result DueEntry Refusal) → c.in_ok-due.field-0 ≡ then
    → IsOutcome c.args.app.now trace (asking_at trace c.args.asking.object (Acting c.args.birth) c.args.asking.span c.args.asking.call) (outcome_entry then)
came c trace s then is =
    let q = c.args.asking in
    let next = c.requires.next in
    let g = is_next_found c.args.self.now c.args.birth c.args.at q c.requires.found next in
    let clock : q.clock ≡ clock_of q.actor trace =
    next.clock ∙ goes_clock c.args.app.now c.args.self.now trace c.args.birth c.args.at next.process s g ∙ ap (λ (a : Actor). clock_of a trace) (sym next.actor) in
    subst (λ (a : Actor). IsOutcome c.args.app.now trace (asking_at trace q.object a q.span q.call) (outcome_entry then)) next.actor
    (outcome_is c.args.app.now trace (asked_in trace q) c.in_ok-due.field-0 then is (c.in_ok-due.ensures.outcome c.args.app.now trace c.requires.sound s clock))

pub go_past-requires-clause-entry : goal.go_past-requires-clause-entry
go_past-requires-clause-entry c =
    let it = (goal.at.go_past-requires-clause-entry c).In_ok-due in
    record { asking = c.args.asking; next = c.requires.next; made = λ trace s. came it trace s (Ok c.in-Ok.due) c.in-Ok.is }

pub unreachable-requires : goal.unreachable-requires
unreachable-requires c =
    came ((goal.at.unreachable-requires c).In_ok-due) c.requires.world.trace c.requires.world.stands (Err (Spent c.in-Err-Spent.field-0-0)) (c.in-Err-Spent.is ∙ ap Err c.in-Err-Spent.field-0-is)

pub returns-in-Err-NotYet-clause-chose : goal.returns-in-Err-NotYet-clause-chose
returns-in-Err-NotYet-clause-chose c = λ trace s.
    let g = is_next_found c.args.self.now c.args.birth c.args.at c.args.asking c.requires.found c.requires.next in
    go_waits c.args.app.now c.args.self.now trace c.args.birth c.args.at c.requires.next.process s g
    c.args.asking.object c.args.asking.span c.args.asking.call c.requires.next.going (c.requires.next.asks c.args.app.now)
    (came ((goal.at.returns-in-Err-NotYet-clause-chose c).In_ok-due) trace s (Err NotYet) (c.in-Err-NotYet.is ∙ ap Err c.in-Err-NotYet.field-0-is)).0

pub returns-in-Err-NotYet-clause-ended : goal.returns-in-Err-NotYet-clause-ended
returns-in-Err-NotYet-clause-ended c = λ trace s.
    let g = is_next_found c.args.self.now c.args.birth c.args.at c.args.asking c.requires.found c.requires.next in
    stops_waits c.args.app.now c.args.self.now trace c.args.birth c.args.at c.requires.next.process s g
    c.args.asking.object c.args.asking.span c.args.asking.call c.requires.next.going (c.requires.next.asks c.args.app.now)
    (lists c.args.self.now.processes)
    (came ((goal.at.returns-in-Err-NotYet-clause-ended c).In_ok-due) trace s (Err NotYet) (c.in-Err-NotYet.is ∙ ap Err c.in-Err-NotYet.field-0-is)).1

pub end-requires-clause-full : goal.end-requires-clause-full
end-requires-clause-full c = λ q is.
    let p = c.requires.next.process in
    let g = is_next_found c.args.self.now c.args.birth c.args.at c.args.asking c.requires.found c.requires.next in
    subst (MayMeetFull c.args.asking.object) (sym (found_again (born_at (lists c.args.self.now.processes) c.args.birth.object) c.args.at p q c.requires.next.there is))
    (may_meet_full c.args.app.now c.args.self.now c.requires.world.trace c.args.birth c.args.at p c.requires.world.stands g
    c.args.asking.object c.args.asking.span c.args.asking.call c.requires.next.going (c.requires.next.asks c.args.app.now))

pub returns-in-Err-Full-clause-chose : goal.returns-in-Err-Full-clause-chose
returns-in-Err-Full-clause-chose c = λ trace s.
    let g = is_next_found c.args.self.now c.args.birth c.args.at c.args.asking c.requires.found c.requires.next in
    go_ended c.args.app.now c.args.self.now trace c.args.birth c.args.at c.requires.next.process s g
    c.args.asking.object c.args.asking.span c.args.asking.call c.requires.next.going (c.requires.next.asks c.args.app.now) c.requires.sound
    _ (came ((goal.at.returns-in-Err-Full-clause-chose c).In_ok-due) trace s (Err (Full c.in-Err-Full.field-0-0 c.in-Err-Full.field-0-1 c.in-Err-Full.field-0-2)) (c.in-Err-Full.is ∙ ap Err c.in-Err-Full.field-0-is))
    refl c.end.ensures s.trail refl

pub returns-in-Err-Full-clause-ended : goal.returns-in-Err-Full-clause-ended
returns-in-Err-Full-clause-ended c = λ trace s.
    let g = is_next_found c.args.self.now c.args.birth c.args.at c.args.asking c.requires.found c.requires.next in
    stops_ended c.args.app.now c.args.self.now trace c.args.birth c.args.at c.requires.next.process s g
    c.args.asking.object c.args.asking.span c.args.asking.call c.requires.next.going (c.requires.next.asks c.args.app.now)
    _ c.end.ensures

pub returns-in_err-due-clause-chose : goal.returns-in_err-due-clause-chose
returns-in_err-due-clause-chose c = grind arith

pub end-requires-clause-at : goal.end-requires-clause-at
end-requires-clause-at c = grind (arith, common_steps)
