use Rattle.std.proofs.Common.{◌≡◌, List, true, false, refl}
use Rattle.std.specs.Prelude.{Bool, Ok, Err, Result, OnOk, ◌<◌, length}
use Rattle.std.specs.BTreeSet.{keys}
use Rattle.anti_ids.specs.declared.memory.NoMemory.{NoMemory}
use Rattle.anti_kind.specs.declared.actor.Actor.TheVariants.{Process as Acting}
use Rattle.anti_kind.specs.declared.entry.Entry.{Entry}
use Rattle.anti_app.specs.declared.app.Choice.TheVariants.{Go}
use Rattle.anti_trace.specs.inner.Living.{lists}
use Rattle.anti_trace.proofs.Followed.{found_there}
use Rattle.anti_play.specs.Schedule.{asking_at, chosen}
use Rattle.anti_play.specs.inner.Attending.{Attends, Turned, entry_by_offer, with_entry}
use Rattle.anti_play.specs.inner.Standing.{Chose, WorldStands}
use Rattle.anti_play.proofs.Attempting.{chosen_lost, vain_lost, went_nowhere}
use Rattle.anti_play.proofs.MakeEntry.{by_and}
use Rattle.anti_play.proofs.Going.{Offered, going_is, made_attends, made_lost, offer_within, offered, over_attends, over_turned, vain_attends, waits_attends, waits_turned}
use Rattle.anti_play.proofs.Tried.{came_as}
use Rattle.anti_play.proofs.world.World.attempt_go.Goals as goal
use Rattle.anti_play.proofs.world.World.attempt_go.Goals.{After-birth-birth, In_ok-go_on}

pub get-process-requires-clause-object : goal.get-process-requires-clause-object
get-process-requires-clause-object c =
    let r = c.requires.attended in
    (offer_within c.args.app.now c.args.self.now r.trace c.args.offer c.args.object c.args.at r.stands c.requires.is (r.attends.awake c.args.offer c.requires.awake)).0

pub get-process-requires-clause-at : goal.get-process-requires-clause-at
get-process-requires-clause-at c =
    let r = c.requires.attended in
    (offer_within c.args.app.now c.args.self.now r.trace c.args.offer c.args.object c.args.at r.stands c.requires.is (r.attends.awake c.args.offer c.requires.awake)).1

-- the process is that of the offer
goes : (c : After-birth-birth) (trace : List Entry) → WorldStands c.args.app.now c.args.self.now trace
    → Offered c.args.app.now c.args.self.now trace c.args.offer c.birth-birth.result c.args.at c.get-process.result.now
goes c trace s =
    offered c.args.app.now c.args.self.now trace c.args.offer c.args.object c.args.at c.get-process.result.now c.birth-birth.result s c.requires.is c.get-process.ensures
    c.birth-birth.ensures

pub returns-in_default-clause-chose : goal.returns-in_default-clause-chose
returns-in_default-clause-chose c = λ trace s a.
    over_turned c.args.app.now c.requires.sound c.args.self.now trace s c.args.offer c.birth-birth.result c.args.at c.get-process.result.now
    (goes ((goal.at.returns-in_default-clause-chose c).After-birth-birth) trace s) (c.in_default.ensures.none c.args.app.now)

pub returns-in_default-clause-attends : goal.returns-in_default-clause-attends
returns-in_default-clause-attends c = λ trace s a.
    over_attends c.args.app.now c.requires.sound c.args.self.now trace s c.args.offer c.birth-birth.result c.args.at c.get-process.result.now
    (goes ((goal.at.returns-in_default-clause-attends c).After-birth-birth) trace s) (c.in_default.ensures.none c.args.app.now)
    c.args.agenda.now c.rest.new.self a c.rest.ensures

pub returns-in-Some-awaits-clause-chose : goal.returns-in-Some-awaits-clause-chose
returns-in-Some-awaits-clause-chose c = λ trace s a.
    let asked = c.in-Some.asked in
    by_and c.sleep.result false c.and.result c.and.ensures
    (λ (r : Result Bool NoMemory). Turned c.args.app.now trace (entry_by_offer c.args.app.now trace c.args.offer) r c.args.self.now)
    c.sleep.ensures.ok
    (λ put.
    waits_turned c.args.app.now c.requires.sound c.args.self.now trace s c.args.offer c.birth-birth.result c.args.at c.get-process.result.now
    (goes ((goal.at.returns-in-Some-awaits-clause-chose c).After-birth-birth) trace s)
    asked.object asked.span asked.call.now c.in-Some.ensures.going (c.in-Some.ensures.some c.args.app.now) c.in-Some-awaits.awaited
    (c.in-Some-awaits.ensures c.args.app.now trace (asking_at trace asked.object (Acting c.birth-birth.result) asked.span asked.call.now) s refl refl))
    (λ lost. went_nowhere c.args.app.now trace c.args.self.now s)

pub returns-in-Some-awaits-clause-attends : goal.returns-in-Some-awaits-clause-attends
returns-in-Some-awaits-clause-attends c = λ trace s a.
    let asked = c.in-Some.asked in
    by_and c.sleep.result false c.and.result c.and.ensures
    (λ (r : Result Bool NoMemory). OnOk r (Attends c.args.app.now (with_entry (entry_by_offer c.args.app.now trace c.args.offer) trace) c.sleep.new.self))
    c.sleep.ensures.ok
    (λ put.
    waits_attends c.args.app.now c.requires.sound c.args.self.now trace s c.args.offer c.birth-birth.result c.args.at c.get-process.result.now
    (goes ((goal.at.returns-in-Some-awaits-clause-attends c).After-birth-birth) trace s)
    asked.object asked.span asked.call.now c.in-Some.ensures.going (c.in-Some.ensures.some c.args.app.now) c.in-Some-awaits.awaited
    (c.in-Some-awaits.ensures c.args.app.now trace (asking_at trace asked.object (Acting c.birth-birth.result) asked.span asked.call.now) s refl refl)
    c.args.agenda.now c.sleep.new.self a c.requires.awake put)
    (λ lost. tt)

pub returns-in-Some-awaits-clause-fewer : goal.returns-in-Some-awaits-clause-fewer
returns-in-Some-awaits-clause-fewer c =
    by_and c.sleep.result false c.and.result c.and.ensures
    (λ (r : Result Bool NoMemory). r ≡ Ok false → length (keys c.sleep.new.self.awake) < length (keys c.args.agenda.now.awake))
    c.sleep.ensures.ok
    (λ put same. put.left.fewer c.requires.awake)
    (λ lost same. absurd (cc))

pub go_on-requires-clause-object : goal.go_on-requires-clause-object
go_on-requires-clause-object c =
    let r = c.requires.attended in
    found_there (lists c.args.self.now.processes) c.birth-birth.result c.args.at (goes ((goal.at.go_on-requires-clause-object c).After-birth-birth) r.trace r.stands).found.found

pub go_on-requires-clause-found : goal.go_on-requires-clause-found
go_on-requires-clause-found c =
    let r = c.requires.attended in
    (goes ((goal.at.go_on-requires-clause-found c).After-birth-birth) r.trace r.stands).found.found

pub returns-in_err-go_on-clause-chose : goal.returns-in_err-go_on-clause-chose
returns-in_err-go_on-clause-chose c = λ trace s a.
    let app = c.args.app.now in
    let n = c.go_on.new.self in
    let x = c.in_err-go_on.field-0.0 in
    chosen_lost app trace (entry_by_offer app trace c.args.offer) x c.from_residual.result n c.from_residual.ensures.0
    (going_is app c.requires.sound c.args.self.now trace s c.args.offer c.birth-birth.result c.args.at c.get-process.result.now
    (goes ((goal.at.returns-in_err-go_on-clause-chose c).After-birth-birth) trace s) (Err x) n (c.in_err-go_on.ensures.chose trace s))

-- what came of the process, told as the branch
came : (c : In_ok-go_on) (trace : List Entry) → WorldStands c.args.app.now c.args.self.now trace → (made : Bool) → c.in_ok-go_on.field-0 ≡ made
    → Chose c.args.app.now trace (chosen c.args.app.now trace (Go c.birth-birth.result.object c.birth-birth.result.place)) (Ok made) c.go_on.new.self
came c trace s made is =
    came_as c.args.app.now trace (chosen c.args.app.now trace (Go c.birth-birth.result.object c.birth-birth.result.place)) c.go_on.new.self c.in_ok-go_on.field-0 made is
    (c.in_ok-go_on.ensures.chose trace s)

pub returns-then-not-branch-clause-chose : goal.returns-then-not-branch-clause-chose
returns-then-not-branch-clause-chose c = λ trace s a.
    let off : c.in_ok-go_on.field-0 ≡ false = c.if-not-branch.true in
    by_and c.idle.result false c.and-then-not-branch.result c.and-then-not-branch.ensures
    (λ (r : Result Bool NoMemory). Turned c.args.app.now trace (entry_by_offer c.args.app.now trace c.args.offer) r c.go_on.new.self)
    c.idle.ensures.ok
    (λ idled.
    going_is c.args.app.now c.requires.sound c.args.self.now trace s c.args.offer c.birth-birth.result c.args.at c.get-process.result.now
    (goes ((goal.at.returns-then-not-branch-clause-chose c).After-birth-birth) trace s) (Ok false) c.go_on.new.self
    (came ((goal.at.returns-then-not-branch-clause-chose c).In_ok-go_on) trace s false off))
    (λ lost.
    vain_lost c.args.app.now trace (entry_by_offer c.args.app.now trace c.args.offer) (Err lost) c.go_on.new.self refl
    (going_is c.args.app.now c.requires.sound c.args.self.now trace s c.args.offer c.birth-birth.result c.args.at c.get-process.result.now
    (goes ((goal.at.returns-then-not-branch-clause-chose c).After-birth-birth) trace s) (Ok false) c.go_on.new.self
    (came ((goal.at.returns-then-not-branch-clause-chose c).In_ok-go_on) trace s false off)))

pub returns-then-not-branch-clause-attends : goal.returns-then-not-branch-clause-attends
returns-then-not-branch-clause-attends c = λ trace s a.
    let asked = c.in-Some.asked in
    let off : c.in_ok-go_on.field-0 ≡ false = c.if-not-branch.true in
    by_and c.idle.result false c.and-then-not-branch.result c.and-then-not-branch.ensures
    (λ (r : Result Bool NoMemory). OnOk r (Attends c.args.app.now (with_entry (entry_by_offer c.args.app.now trace c.args.offer) trace) c.idle.new.self))
    c.idle.ensures.ok
    (λ idled.
    vain_attends c.args.app.now c.requires.sound c.args.self.now trace s c.args.offer c.birth-birth.result c.args.at c.get-process.result.now
    (goes ((goal.at.returns-then-not-branch-clause-attends c).After-birth-birth) trace s)
    asked.object asked.span asked.call.now c.in-Some.ensures.going (c.in-Some.ensures.some c.args.app.now) c.go_on.new.self
    (came ((goal.at.returns-then-not-branch-clause-attends c).In_ok-go_on) trace s false off)
    c.args.agenda.now c.idle.new.self a c.requires.awake idled)
    (λ lost. tt)

pub returns-then-not-branch-clause-fewer : goal.returns-then-not-branch-clause-fewer
returns-then-not-branch-clause-fewer c =
    by_and c.idle.result false c.and-then-not-branch.result c.and-then-not-branch.ensures
    (λ (r : Result Bool NoMemory). r ≡ Ok false → length (keys c.idle.new.self.awake) < length (keys c.args.agenda.now.awake))
    c.idle.ensures.ok
    (λ idled same. idled.left.fewer c.requires.awake)
    (λ lost same. absurd (cc))

pub returns-clause-chose : goal.returns-clause-chose
returns-clause-chose c = λ trace s a.
    let on : c.in_ok-go_on.field-0 ≡ true = c.if-not-branch.false in
    by_and c.stir.result true c.and-2.result c.and-2.ensures
    (λ (r : Result Bool NoMemory). Turned c.args.app.now trace (entry_by_offer c.args.app.now trace c.args.offer) r c.go_on.new.self)
    c.stir.ensures
    (λ stirred.
    going_is c.args.app.now c.requires.sound c.args.self.now trace s c.args.offer c.birth-birth.result c.args.at c.get-process.result.now
    (goes ((goal.at.returns-clause-chose c).After-birth-birth) trace s) (Ok true) c.go_on.new.self
    (came ((goal.at.returns-clause-chose c).In_ok-go_on) trace s true on))
    (λ lost.
    made_lost c.args.app.now c.requires.sound c.args.self.now trace s c.args.offer c.birth-birth.result c.args.at c.get-process.result.now
    (goes ((goal.at.returns-clause-chose c).After-birth-birth) trace s)
    c.in-Some.asked.object c.in-Some.asked.span c.in-Some.asked.call.now c.in-Some.ensures.going (c.in-Some.ensures.some c.args.app.now) c.go_on.new.self
    (came ((goal.at.returns-clause-chose c).In_ok-go_on) trace s true on) (Err lost) refl)

pub returns-clause-attends : goal.returns-clause-attends
returns-clause-attends c = λ trace s a.
    let asked = c.in-Some.asked in
    let on : c.in_ok-go_on.field-0 ≡ true = c.if-not-branch.false in
    by_and c.stir.result true c.and-2.result c.and-2.ensures
    (λ (r : Result Bool NoMemory). OnOk r (Attends c.args.app.now (with_entry (entry_by_offer c.args.app.now trace c.args.offer) trace) c.stir.new.self))
    c.stir.ensures
    (λ stirred.
    made_attends c.args.app.now c.requires.sound c.args.self.now trace s c.args.offer c.birth-birth.result c.args.at c.get-process.result.now
    (goes ((goal.at.returns-clause-attends c).After-birth-birth) trace s)
    asked.object asked.span asked.call.now c.in-Some.ensures.going (c.in-Some.ensures.some c.args.app.now) c.go_on.new.self
    (came ((goal.at.returns-clause-attends c).In_ok-go_on) trace s true on)
    c.args.agenda.now c.stir.new.self a c.brought-brought.result c.brought-brought.ensures stirred)
    (λ lost. tt)
