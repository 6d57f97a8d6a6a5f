use Rattle.std.proofs.Common.{◌≡◌, List, true, false, refl, sym, ap, ◌∙◌, subst}
use Rattle.std.specs.Prelude.{None, Ok, Err, Result, Bool, OnOk, ◌<◌, length}
use Rattle.std.specs.BTreeSet.{keys}
use Rattle.anti_ids.specs.declared.memory.NoMemory.{NoMemory}
use Rattle.anti_kind.specs.declared.asking.Asking.{Asking}
use Rattle.anti_kind.specs.declared.entry.Entry.{Entry}
use Rattle.anti_trace.specs.inner.Living.{lists}
use Rattle.anti_trace.proofs.InOrder.{as_many}
use Rattle.anti_play.specs.Schedule.{bearing, made_at}
use Rattle.anti_play.specs.inner.Attending.{Attends, OfferWaits, Turned, entry_by_offer, with_entry}
use Rattle.anti_play.specs.inner.Finishing.{WentOn}
use Rattle.anti_play.specs.inner.Standing.{Chose, WorldStands}
use Rattle.anti_play.proofs.Attempting.{attends_made, attends_none, chosen_lost, turned_lost, vain_lost, went_further, went_nowhere}
use Rattle.anti_play.proofs.Chose.{chose_none}
use Rattle.anti_play.proofs.MakeEntry.{by_and}
use Rattle.anti_play.proofs.Minding.{attends_idle, attends_sleep, waits_none}
use Rattle.anti_play.proofs.Newborn.{asked_makes, asked_waits, birth_attends, birth_further}
use Rattle.anti_play.proofs.Tried.{MadeOne, chose_false, chose_of, chose_true}
use Rattle.anti_play.proofs.world.World.attempt_birth.Goals as goal
use Rattle.anti_play.proofs.world.World.attempt_birth.Goals.{In-Some, After-bear}

-- ---- it waits

waits : (c : In-Some) (trace : List Entry) → WorldStands c.args.app.now c.args.self.now trace → OfferWaits c.args.app.now trace c.args.object c.in-Some.awaited c.args.offer
waits c trace s =
    let q : Asking = bearing trace c.args.object c.args.call in
    asked_waits c.args.app.now trace c.args.offer q c.args.object c.in-Some.awaited c.requires.route (c.requires.asks trace)
    (c.in-Some.ensures c.args.app.now trace q s refl refl)

none_waits : (c : In-Some) (trace : List Entry) → WorldStands c.args.app.now c.args.self.now trace → entry_by_offer c.args.app.now trace c.args.offer ≡ None
none_waits c trace s = waits_none c.args.app.now c.requires.sound trace s.run c.args.object c.in-Some.awaited c.args.offer (waits c trace s)

pub returns-in-Some-clause-chose : goal.returns-in-Some-clause-chose
returns-in-Some-clause-chose c = λ trace s a.
    let at = (goal.at.returns-in-Some-clause-chose c).In-Some in
    by_and c.sleep.result false c.and.result c.and.ensures
    (λ (r : Result Bool NoMemory). Turned c.args.app.now trace (entry_by_offer c.args.app.now trace c.args.offer) r c.args.self.now)
    c.sleep.ensures.ok
    (λ put. chose_none c.args.app.now c.args.self.now trace (entry_by_offer c.args.app.now trace c.args.offer) (none_waits at trace s) s)
    (λ lost. went_nowhere c.args.app.now trace c.args.self.now s)

pub returns-in-Some-clause-attends : goal.returns-in-Some-clause-attends
returns-in-Some-clause-attends c = λ trace s a.
    let at = (goal.at.returns-in-Some-clause-attends c).In-Some in
    by_and c.sleep.result false c.and.result c.and.ensures
    (λ (r : Result Bool NoMemory).
    OnOk r (Attends c.args.app.now (with_entry (entry_by_offer c.args.app.now trace c.args.offer) trace) c.sleep.new.self))
    c.sleep.ensures.ok
    (λ put.
    attends_none c.args.app.now trace (entry_by_offer c.args.app.now trace c.args.offer) c.sleep.new.self (none_waits at trace s)
    (attends_sleep c.args.app.now trace c.args.offer c.args.agenda.now c.sleep.new.self a c.requires.awake c.args.object c.in-Some.awaited put (waits at trace s)))
    (λ lost. tt)

pub returns-in-Some-clause-fewer : goal.returns-in-Some-clause-fewer
returns-in-Some-clause-fewer c =
    by_and c.sleep.result false c.and.result c.and.ensures
    (λ (r : Result Bool NoMemory). r ≡ Ok false → length (keys c.sleep.new.self.awake) < length (keys c.args.agenda.now.awake))
    c.sleep.ensures.ok
    (λ put same. put.left.fewer c.requires.awake)
    (λ lost same. absurd (cc))

-- ---- it is tried

-- what came of the call came of the offer
makes : (c : After-bear) (trace : List Entry) → entry_by_offer c.args.app.now trace c.args.offer ≡ made_at c.args.app.now trace (bearing trace c.args.object c.args.call)
makes c trace = asked_makes c.args.app.now trace c.args.offer (bearing trace c.args.object c.args.call) c.requires.route (c.requires.asks trace)

came : (c : After-bear) (trace : List Entry) (r : Result Bool NoMemory) → WorldStands c.args.app.now c.args.self.now trace → c.bear.result ≡ r
    → Chose c.args.app.now trace (entry_by_offer c.args.app.now trace c.args.offer) r c.bear.new.self
came c trace r s is =
    subst (λ (x : Result Bool NoMemory). Chose c.args.app.now trace (entry_by_offer c.args.app.now trace c.args.offer) x c.bear.new.self) is
    (chose_of c.args.app.now trace (made_at c.args.app.now trace (bearing trace c.args.object c.args.call)) (entry_by_offer c.args.app.now trace c.args.offer)
    c.bear.result c.bear.new.self (sym (makes c trace)) (c.bear.ensures trace s))

-- it made one
one : (c : After-bear) (trace : List Entry) → WorldStands c.args.app.now c.args.self.now trace → c.bear.result ≡ Ok true
    → MadeOne c.args.app.now trace (entry_by_offer c.args.app.now trace c.args.offer) c.bear.new.self
one c trace s is = chose_true c.args.app.now trace (entry_by_offer c.args.app.now trace c.args.offer) c.bear.new.self (came c trace (Ok true) s is)

one_further : (c : After-bear) (trace : List Entry) → WorldStands c.args.app.now c.args.self.now trace → c.bear.result ≡ Ok true → WentOn c.args.app.now trace c.bear.new.self
one_further c trace s is =
    let made = one c trace s is in
    went_further c.args.app.now trace made.entry c.bear.new.self
    (birth_further c.args.app.now c.requires.sound trace s.run c.args.object c.args.call c.requires.born made.entry (sym (makes c trace) ∙ made.is)) made.stands

pub returns-in_err-bear-clause-chose : goal.returns-in_err-bear-clause-chose
returns-in_err-bear-clause-chose c = λ trace s a.
    let x = c.in_err-bear.field-0.0 in
    chosen_lost c.args.app.now trace (entry_by_offer c.args.app.now trace c.args.offer) x c.from_residual.result c.bear.new.self
    c.from_residual.ensures.0 (came ((goal.at.returns-in_err-bear-clause-chose c).After-bear) trace (Err x) s c.in_err-bear.was)

pub returns-then-not-branch-clause-chose : goal.returns-then-not-branch-clause-chose
returns-then-not-branch-clause-chose c = λ trace s a.
    let made = came ((goal.at.returns-then-not-branch-clause-chose c).After-bear) trace (Ok false) s (c.in_ok-bear.was ∙ ap Ok c.if-not-branch.true) in
    by_and c.idle.result false c.and-then-not-branch.result c.and-then-not-branch.ensures
    (λ (r : Result Bool NoMemory). Turned c.args.app.now trace (entry_by_offer c.args.app.now trace c.args.offer) r c.bear.new.self)
    c.idle.ensures.ok
    (λ idled. made)
    (λ lost. vain_lost c.args.app.now trace (entry_by_offer c.args.app.now trace c.args.offer) (Err lost) c.bear.new.self refl made)

pub returns-then-not-branch-clause-attends : goal.returns-then-not-branch-clause-attends
returns-then-not-branch-clause-attends c = λ trace s a.
    let none =
    (chose_false c.args.app.now trace (entry_by_offer c.args.app.now trace c.args.offer) c.bear.new.self
    (came ((goal.at.returns-then-not-branch-clause-attends c).After-bear) trace (Ok false) s (c.in_ok-bear.was ∙ ap Ok c.if-not-branch.true))).0 in
    by_and c.idle.result false c.and-then-not-branch.result c.and-then-not-branch.ensures
    (λ (r : Result Bool NoMemory). OnOk r (Attends c.args.app.now (with_entry (entry_by_offer c.args.app.now trace c.args.offer) trace) c.idle.new.self))
    c.idle.ensures.ok
    (λ idled.
    attends_none c.args.app.now trace (entry_by_offer c.args.app.now trace c.args.offer) c.idle.new.self none
    (attends_idle c.args.app.now trace c.args.offer c.args.agenda.now c.idle.new.self a c.requires.awake idled none))
    (λ lost. tt)

pub returns-then-not-branch-clause-fewer : goal.returns-then-not-branch-clause-fewer
returns-then-not-branch-clause-fewer c =
    by_and c.idle.result false c.and-then-not-branch.result c.and-then-not-branch.ensures
    (λ (r : Result Bool NoMemory). r ≡ Ok false → length (keys c.idle.new.self.awake) < length (keys c.args.agenda.now.awake))
    c.idle.ensures.ok
    (λ idled same. idled.left.fewer c.requires.awake)
    (λ lost same. absurd (cc))

pub returns-in_err-stir-clause-chose : goal.returns-in_err-stir-clause-chose
returns-in_err-stir-clause-chose c = λ trace s a.
    turned_lost c.args.app.now trace (entry_by_offer c.args.app.now trace c.args.offer) c.from_residual-in_err-stir.result c.bear.new.self c.from_residual-in_err-stir.ensures.0
    (one_further ((goal.at.returns-in_err-stir-clause-chose c).After-bear) trace s (c.in_ok-bear.was ∙ ap Ok c.if-not-branch.false))

pub returns-clause-chose : goal.returns-clause-chose
returns-clause-chose c = λ trace s a.
    let at = (goal.at.returns-clause-chose c).After-bear in
    let is = c.in_ok-bear.was ∙ ap Ok c.if-not-branch.false in
    by_and c.wake.result true c.and-2.result c.and-2.ensures
    (λ (r : Result Bool NoMemory). Turned c.args.app.now trace (entry_by_offer c.args.app.now trace c.args.offer) r c.bear.new.self)
    c.wake.ensures.ok
    (λ woken. came at trace (Ok true) s is)
    (λ lost. one_further at trace s is)

pub returns-clause-attends : goal.returns-clause-attends
returns-clause-attends c = λ trace s a.
    let at = (goal.at.returns-clause-attends c).After-bear in
    let made = one at trace s (c.in_ok-bear.was ∙ ap Ok c.if-not-branch.false) in
    by_and c.wake.result true c.and-2.result c.and-2.ensures
    (λ (r : Result Bool NoMemory). OnOk r (Attends c.args.app.now (with_entry (entry_by_offer c.args.app.now trace c.args.offer) trace) c.wake.new.self))
    c.wake.ensures.ok
    (λ woken.
    attends_made c.args.app.now trace (entry_by_offer c.args.app.now trace c.args.offer) made.entry c.wake.new.self made.is
    (birth_attends c.args.app.now c.requires.sound trace s.run c.args.object c.args.call c.requires.born made.entry (sym (makes at trace) ∙ made.is)
    c.args.agenda.now c.stir.new.self c.wake.new.self c.brought-brought.result c.brought-brought.ensures c.in_ok-stir.ensures c.born_count-at.result
    (c.born_count-at.ensures ∙ sym (as_many trace c.args.object (lists c.args.self.now.processes) s.processes.born)) woken a))
    (λ lost. tt)
