use Rattle.std.proofs.Common.{sym, ◌∙◌, subst}
use denote.RawPtr.{Ptr}
use Rattle.anti_flight.specs.inner.Linked.{ring, HasNext}
use Rattle.anti_flight.proofs.Rings.{some_first, has_first}
use Rattle.anti_flight.proofs.ends.Ends.first.Goals as goal

pub next-requires : goal.next-requires
next-requires g c =
    let i = c.self.inside.chain in subst (λ (p : Ptr). (q : Ptr) × HasNext (ring i.head i.nodes i.tail) p q) (sym c.self.invariant.0) (some_first i.head i.nodes i.tail)

pub returns : goal.returns
returns g c =
    λ n rest e. let i = c.self.inside.chain in
    sym (c.next.ensures n.place (subst (λ (p : Ptr). HasNext (ring i.head i.nodes i.tail) p n.place) (sym c.self.invariant.0) (has_first i.head i.nodes i.tail n rest (c.self.view_is ∙ e))))
