use Rattle.std.proofs.Common.{sym, ap, ◌∙◌, subst}
use Rattle.anti_flight.specs.Tickets.{InFlight, in_flight, IsOf}
use Rattle.anti_flight.proofs.Given.{is_of_without}
use Rattle.anti_flight.proofs.Pairs.{shown_some, stands_some, node_at, without, stands_without}
use Rattle.anti_flight.proofs.flight.Flight.unlink.Goals as goal

pub unlink-item-requires : goal.unlink-item-requires
unlink-item-requires g c =
    let i = c.self.inside in
    node_at c.in-Some.ends c.args.self.now.pairs c.args.ticket (shown_some i.ends i.next c.args.self.now c.in-Some.ends c.self.view_is c.in-Some.is) c.requires

pub invariant_of-self : goal.invariant_of-self
invariant_of-self g c =
    let i = c.self.inside in
    stands_without c.in-Some.ends c.unlink-item.new.self c.args.ticket c.unlink-item.result c.unlink-item.ensures c.args.self.now.pairs i.len i.next
    (shown_some i.ends i.next c.args.self.now c.in-Some.ends c.self.view_is c.in-Some.is) c.requires (stands_some i.ends i.len i.next c.in-Some.ends c.self.invariant c.in-Some.is)

pub returns-clause-left : goal.returns-clause-left
returns-clause-left g c =
    λ xs x ys e. let i = c.self.inside in
    let left = without c.in-Some.ends c.unlink-item.new.self c.args.ticket c.unlink-item.result c.unlink-item.ensures xs x ys (shown_some i.ends i.next c.args.self.now c.in-Some.ends c.self.view_is c.in-Some.is ∙ e) in
    (λ j. in_flight (left.0 j) (ap (λ (f : InFlight g.row.T.Denot). f.next) c.self.view_is j), left.1)

pub returns-clause-kept : goal.returns-clause-kept
returns-clause-kept g c =
    λ t of. let i = c.self.inside in let h = c.requires in
    let left = without c.in-Some.ends c.unlink-item.new.self c.args.ticket c.unlink-item.result c.unlink-item.ensures h.0 h.1 h.2 (shown_some i.ends i.next c.args.self.now c.in-Some.ends c.self.view_is c.in-Some.is ∙ h.3) in
    let next = ap (λ (f : InFlight g.row.T.Denot). f.next) c.self.view_is in
    subst (λ f. IsOf f t) (λ j. in_flight (sym left.0 j) (sym next j)) (is_of_without c.args.self.now t h.0 (c.args.ticket, h.1) h.2 h.3 of)
