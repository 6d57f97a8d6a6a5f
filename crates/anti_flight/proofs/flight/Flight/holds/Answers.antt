use Rattle.std.proofs.Common.{suc, take, drop, sym, ◌∙◌}
use Rattle.anti_flight.proofs.Given.{found_held}
use Rattle.anti_flight.proofs.Items.{at_index}
use Rattle.anti_flight.proofs.Pairs.{one_on}
use Rattle.anti_flight.proofs.flight.Flight.holds.Goals as goal

pub after-at-requires : goal.after-at-requires
after-at-requires g c =
    let ps = c.args.self.now.pairs in let i = c.loop.counter in
    let on = at_index i ps c.in-Some.found (sym c.loop.invariant.0 ∙ c.in-Some.is) in (take i ps, on.0, drop (suc i) ps, on.2)

pub loop-preserved : goal.loop-preserved
loop-preserved g c =
    one_on c.loop.counter c.args.self.now.pairs c.in-Some.found c.args.ticket.now.number c.after-at.result (sym c.loop.invariant.0 ∙ c.in-Some.is) c.if-found-ticket.false
    c.after-at.ensures.next c.loop.invariant.1

pub returns-then-found-ticket-clause-held : goal.returns-then-found-ticket-clause-held
returns-then-found-ticket-clause-held g c =
    λ of yes. let ps = c.args.self.now.pairs in let i = c.loop.counter in
    let on = at_index i ps c.in-Some.found (sym c.loop.invariant.0 ∙ c.in-Some.is) in
    found_held c.args.self.now c.args.ticket.now (take i ps) (c.in-Some.found, on.0) (drop (suc i) ps) on.2 c.if-found-ticket.true of
