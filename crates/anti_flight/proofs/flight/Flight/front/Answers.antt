use Rattle.std.proofs.Common.{subst, ◌∙◌, ap, arith}
use Rattle.anti_flight.specs.Tickets.{Holds, first_ticket}
use Rattle.anti_flight.proofs.Pairs.{shown_some, stands_some, first_at, first_is, ticket_held}
use Rattle.anti_flight.proofs.flight.Flight.front.Goals as goal

pub ticket_at-requires : goal.ticket_at-requires
ticket_at-requires g c =
    let i = c.self.inside in let s = stands_some i.ends i.len i.next c.in-Some.ends c.self.invariant c.in-Some.is in let len = s.0 in let some = c.if-self-eq0.false in
    first_at c.in-Some.ends c.first.result.ptr (λ none. omega arith) c.first.ensures

pub returns-clause-first : goal.returns-clause-first
returns-clause-first g c =
    let i = c.self.inside in let s = stands_some i.ends i.len i.next c.in-Some.ends c.self.invariant c.in-Some.is in let len = s.0 in let some = c.if-self-eq0.false in
    first_is c.in-Some.ends c.first.result.ptr c.ticket_at.result (λ none. omega arith) c.first.ensures c.ticket_at.ensures
    ∙ ap first_ticket (shown_some i.ends i.next c.args.self.now c.in-Some.ends c.self.view_is c.in-Some.is)

pub returns-clause-held : goal.returns-clause-held
returns-clause-held g c =
    let i = c.self.inside in let s = stands_some i.ends i.len i.next c.in-Some.ends c.self.invariant c.in-Some.is in let len = s.0 in let some = c.if-self-eq0.false in
    subst (λ ps. Holds ps c.ticket_at.result) (shown_some i.ends i.next c.args.self.now c.in-Some.ends c.self.view_is c.in-Some.is)
    (ticket_held c.in-Some.ends c.first.result.ptr c.ticket_at.result c.ticket_at.ensures (first_at c.in-Some.ends c.first.result.ptr (λ none. omega arith) c.first.ensures))
