use Rattle.std.proofs.Common.{true, false}
use Rattle.anti_play.specs.Schedule.{first_made}
use Rattle.anti_play.specs.inner.Attending.{entry_by_offer}
use Rattle.anti_play.proofs.Attempting.{turned_lost}
use Rattle.anti_play.proofs.Tried.{came_as}
use Rattle.anti_play.proofs.Turning.{attends_first, attends_still, is_attended, none_then, turned_first, turned_none}
use Rattle.anti_play.proofs.world.World.turn.Goals as goal

pub loop-offer-init : goal.loop-offer-init
loop-offer-init c = λ trace s a. record { stands = s; attends = a }

pub attempt-requires-clause-attended : goal.attempt-requires-clause-attended
attempt-requires-clause-attended c =
    let r = c.requires.attended in
    is_attended c.args.app.now c.loop-offer.self c.loop-offer.agenda r.trace (c.loop-offer.invariant r.trace r.stands r.attends)

pub returns-in_err-attempt-clause-chose : goal.returns-in_err-attempt-clause-chose
returns-in_err-attempt-clause-chose c = λ trace s a.
    let still = c.loop-offer.invariant trace s a in
    turned_lost c.args.app.now trace (first_made c.args.app.now trace) _ c.attempt.new.self c.from_residual.ensures.0 (c.in_err-attempt.ensures.chose trace still.stands still.attends)

pub returns-then-branch-clause-chose : goal.returns-then-branch-clause-chose
returns-then-branch-clause-chose c = λ trace s a.
    let still = c.loop-offer.invariant trace s a in
    let app = c.args.app.now in
    turned_first app c.requires.sound c.loop-offer.self c.attempt.new.self trace c.loop-offer.agenda still c.in-Some.offer c.in-Some.ensures
    (came_as app trace (entry_by_offer app trace c.in-Some.offer) c.attempt.new.self c.in_ok-attempt.field-0 true c.if-branch.true (c.in_ok-attempt.ensures.chose trace still.stands still.attends))

pub returns-then-branch-clause-attends : goal.returns-then-branch-clause-attends
returns-then-branch-clause-attends c = λ trace s a.
    let still = c.loop-offer.invariant trace s a in
    let app = c.args.app.now in
    attends_first app c.requires.sound c.loop-offer.self c.attempt.new.self trace c.loop-offer.agenda still c.in-Some.offer c.in-Some.ensures
    (came_as app trace (entry_by_offer app trace c.in-Some.offer) c.attempt.new.self c.in_ok-attempt.field-0 true c.if-branch.true (c.in_ok-attempt.ensures.chose trace still.stands still.attends))
    c.attempt.new.agenda (c.in_ok-attempt.ensures.attends trace still.stands still.attends)

pub loop-offer-preserved : goal.loop-offer-preserved
loop-offer-preserved c = λ trace s a.
    let still = c.loop-offer.invariant trace s a in
    let app = c.args.app.now in
    none_then app c.attempt.new.self trace (entry_by_offer app trace c.in-Some.offer) c.attempt.new.agenda
    (came_as app trace (entry_by_offer app trace c.in-Some.offer) c.attempt.new.self c.in_ok-attempt.field-0 false c.if-branch.false (c.in_ok-attempt.ensures.chose trace still.stands still.attends))
    (c.in_ok-attempt.ensures.attends trace still.stands still.attends)

pub returns-clause-chose : goal.returns-clause-chose
returns-clause-chose c = λ trace s a.
    turned_none c.args.app.now c.requires.sound c.loop-offer.self trace c.loop-offer.agenda (c.loop-offer.invariant trace s a) c.in_default.ensures

pub returns-clause-attends : goal.returns-clause-attends
returns-clause-attends c = λ trace s a.
    attends_still c.args.app.now c.requires.sound c.loop-offer.self trace c.loop-offer.agenda (c.loop-offer.invariant trace s a) c.in_default.ensures
