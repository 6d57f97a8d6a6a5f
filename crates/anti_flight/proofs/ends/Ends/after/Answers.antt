use Rattle.std.proofs.Common.{◌∷◌, ◌++◌, sym, ap, ◌∙◌, subst}
use denote.RawPtr.{Ptr}
use Rattle.anti_flight.specs.inner.Linked.{ring, HasNext}
use Rattle.anti_flight.proofs.Rings.{some_after, has_after}
use Rattle.anti_flight.proofs.ends.Ends.after.Goals as goal

pub next-requires : goal.next-requires
next-requires g c =
    let i = c.self.inside.chain in let at = c.requires in
    subst (λ (p : Ptr). (q : Ptr) × HasNext (ring i.head i.nodes i.tail) p q) at.4 (some_after i.head i.nodes i.tail at.0 at.1 at.2 (c.self.view_is ∙ at.3))

pub returns : goal.returns
returns g c =
    λ xs n ys cut at m rest e. let i = c.self.inside.chain in
    sym (c.next.ensures m.place (subst (λ (p : Ptr). HasNext (ring i.head i.nodes i.tail) p m.place) at (has_after i.head i.nodes i.tail xs n m rest (c.self.view_is ∙ cut ∙ ap (λ l. xs ++ n ∷ l) e))))
