use Rattle.std.proofs.Common.{sym, ◌∙◌, subst}
use denote.RawPtr.{Ptr}
use Rattle.anti_flight.specs.inner.Linked.{ring, HasPrev}
use Rattle.anti_flight.proofs.Rings.{some_last, has_last}
use Rattle.anti_flight.proofs.ends.Ends.last.Goals as goal

pub prev-requires : goal.prev-requires
prev-requires g c =
    let i = c.self.inside.chain in subst (λ (p : Ptr). (q : Ptr) × HasPrev (ring i.head i.nodes i.tail) p q) (sym c.self.invariant.1) (some_last i.head i.nodes i.tail)

pub returns : goal.returns
returns g c =
    λ rest n e. let i = c.self.inside.chain in
    sym (c.prev.ensures n.place (subst (λ (p : Ptr). HasPrev (ring i.head i.nodes i.tail) p n.place) (sym c.self.invariant.1) (has_last i.head i.nodes i.tail rest n (c.self.view_is ∙ e))))
