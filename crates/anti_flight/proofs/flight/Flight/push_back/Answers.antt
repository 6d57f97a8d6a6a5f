use Rattle.std.proofs.Common.{[], ◌+◌, sym, ap, ◌∙◌, subst, refl}
use Rattle.anti_flight.specs.declared.held.Held.{Held}
use Rattle.anti_flight.specs.declared.ticket.Ticket.{Ticket}
use Rattle.anti_flight.specs.Tickets.{in_flight, IsOf}
use Rattle.anti_flight.specs.inner.Standing.{pairs_of, nodes_of}
use Rattle.anti_flight.proofs.Given.{pushed_is_of, is_of_pushed}
use Rattle.anti_flight.proofs.Pairs.{stands_same, stands_pushed, pairs_pushed}
use Rattle.anti_flight.proofs.flight.Flight.push_back.Goals as goal

pub invariant_of-self-in-Ok : goal.invariant_of-self-in-Ok
invariant_of-self-in-Ok g c =
    let i = c.self.inside in let ns = c.in-Some.ends in
    stands_pushed ns c.push_back.new.self c.in-Ok.place.ptr (record { number = i.next; item = c.args.item }) i.len c.in-Ok.ensures.ok
    (stands_same i.ends i.len i.next ns (sym (ap nodes_of c.in-Some.is) ∙ c.make_ends.ensures.nodes) c.self.invariant)

pub returns-in-Ok-clause-held : goal.returns-in-Ok-clause-held
returns-in-Ok-clause-held g c =
    let i = c.self.inside in
    (pairs_of c.in-Some.ends, c.args.item, [], pairs_pushed c.in-Some.ends c.push_back.new.self c.in-Ok.place.ptr (record { number = i.next; item = c.args.item }) c.in-Ok.ensures.ok)

pub returns-in-Ok-clause-given : goal.returns-in-Ok-clause-given
returns-in-Ok-clause-given g c =
    let i = c.self.inside in let ns = c.in-Some.ends in let h : Held g.row.T.Denot = record { number = i.next; item = c.args.item } in let t : Ticket = record { number = i.next; place = c.in-Ok.place } in
    let rises = (stands_same i.ends i.len i.next ns (sym (ap nodes_of c.in-Some.is) ∙ c.make_ends.ensures.nodes) c.self.invariant).1 in
    subst (λ ps. IsOf (in_flight ps (i.next + 1)) t) (sym (pairs_pushed ns c.push_back.new.self c.in-Ok.place.ptr h c.in-Ok.ensures.ok)) (pushed_is_of (pairs_of ns) (t, c.args.item) rises)

pub returns-in-Ok-clause-kept : goal.returns-in-Ok-clause-kept
returns-in-Ok-clause-kept g c =
    λ t of. let i = c.self.inside in let ns = c.in-Some.ends in let h : Held g.row.T.Denot = record { number = i.next; item = c.args.item } in let new : Ticket = record { number = i.next; place = c.in-Ok.place } in
    let same = ap pairs_of (sym (ap nodes_of c.in-Some.is) ∙ c.make_ends.ensures.nodes) in
    subst (λ ps. IsOf (in_flight ps (i.next + 1)) t) (sym (pairs_pushed ns c.push_back.new.self c.in-Ok.place.ptr h c.in-Ok.ensures.ok))
    (is_of_pushed (pairs_of ns) i.next (new, c.args.item) t refl (subst (λ f. IsOf f t) (sym c.self.view_is ∙ (λ j. in_flight (sym same j) i.next)) of))
