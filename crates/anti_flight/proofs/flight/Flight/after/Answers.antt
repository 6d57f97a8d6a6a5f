use Rattle.std.proofs.Common.{◌∙◌, subst, arith}
use Rattle.anti_flight.specs.Tickets.{Holds}
use Rattle.anti_flight.proofs.Pairs.{shown_some, stands_some, node_at, last_at, none_after, after_at, after_is, ticket_held}
use Rattle.anti_flight.proofs.flight.Flight.after.Goals as goal

pub ticket_at-requires : goal.ticket_at-requires
ticket_at-requires g c =
    let i = c.self.inside in let t = c.args.ticket.now in
    last_at c.in-Some.ends c.last.result.ptr t.place.ptr (node_at c.in-Some.ends c.args.self.now.pairs t (shown_some i.ends i.next c.args.self.now c.in-Some.ends c.self.view_is c.in-Some.is) c.requires) c.last.ensures

pub returns-then-ticket_at-ticket-clause-next : goal.returns-then-ticket_at-ticket-clause-next
returns-then-ticket_at-ticket-clause-next g c =
    λ xs x ys e. let i = c.self.inside in let same = c.if-ticket_at-ticket.true in
    none_after c.in-Some.ends c.last.result.ptr c.ticket_at.result c.last.ensures c.ticket_at.ensures c.args.ticket.now i.next
    (stands_some i.ends i.len i.next c.in-Some.ends c.self.invariant c.in-Some.is).1 (omega arith) xs x ys (shown_some i.ends i.next c.args.self.now c.in-Some.ends c.self.view_is c.in-Some.is ∙ e)

pub after-requires : goal.after-requires
after-requires g c =
    let i = c.self.inside in
    node_at c.in-Some.ends c.args.self.now.pairs c.args.ticket.now (shown_some i.ends i.next c.args.self.now c.in-Some.ends c.self.view_is c.in-Some.is) c.requires

pub ticket_at-requires-2 : goal.ticket_at-requires-2
ticket_at-requires-2 g c =
    let i = c.self.inside in let differ = c.if-ticket_at-ticket.false in
    after_at c.in-Some.ends c.last.result.ptr c.ticket_at.result c.last.ensures c.ticket_at.ensures c.args.ticket.now c.after.result.ptr (λ same. omega arith) c.after.ensures
    c.args.self.now.pairs (shown_some i.ends i.next c.args.self.now c.in-Some.ends c.self.view_is c.in-Some.is) c.requires

pub returns-clause-next : goal.returns-clause-next
returns-clause-next g c =
    λ xs x ys e. let i = c.self.inside in let differ = c.if-ticket_at-ticket.false in
    after_is c.in-Some.ends c.last.result.ptr c.ticket_at.result c.last.ensures c.ticket_at.ensures c.args.ticket.now c.after.result.ptr (λ same. omega arith) c.after.ensures
    c.ticket_at-2.result c.ticket_at-2.ensures xs x ys (shown_some i.ends i.next c.args.self.now c.in-Some.ends c.self.view_is c.in-Some.is ∙ e)

pub returns-clause-held : goal.returns-clause-held
returns-clause-held g c =
    let i = c.self.inside in let differ = c.if-ticket_at-ticket.false in
    let same = shown_some i.ends i.next c.args.self.now c.in-Some.ends c.self.view_is c.in-Some.is in
    subst (λ ps. Holds ps c.ticket_at-2.result) same (ticket_held c.in-Some.ends c.after.result.ptr c.ticket_at-2.result c.ticket_at-2.ensures
    (after_at c.in-Some.ends c.last.result.ptr c.ticket_at.result c.last.ensures c.ticket_at.ensures c.args.ticket.now c.after.result.ptr (λ e. omega arith) c.after.ensures c.args.self.now.pairs same c.requires))
