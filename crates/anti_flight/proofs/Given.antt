-- The tickets that a list gave stay its own, whatever is put in and taken out.
use Rattle.std.proofs.Common.{◌≡◌, ℕ, ◌+◌, ◌<◌, List, [], ◌∷◌, ◌++◌, refl, sym, ◌∙◌, arith, subst}
use Rattle.std.specs.List.{AllByRecursion}
use Rattle.anti_flight.specs.declared.ticket.Ticket.{Ticket}
use Rattle.anti_flight.specs.Tickets.{InFlight, in_flight, Holds, Rises, IsOf}
use Rattle.anti_flight.proofs.Splits.{all_left, all_right, all_both}
use Rattle.anti_flight.proofs.Rising.{below_next}

module _ {T : Type 0} where
  abbrev Tells : Ticket → Ticket × T → Type 0
  Tells t p = p.0.number ≡ t.number → p.0 ≡ t

  others : (t : Ticket) (ps : List (Ticket × T)) → AllByRecursion (λ (p : Ticket × T). p.0.number < t.number) ps → AllByRecursion (Tells t) ps
  others t [] h = tt
  others t (p ∷ ps) h = let low = h.0 in ((λ e. absurd (omega arith)), others t ps h.1)

  later : (t : Ticket) (ps : List (Ticket × T)) → AllByRecursion (λ (p : Ticket × T). t.number < p.0.number) ps → AllByRecursion (Tells t) ps
  later t [] h = tt
  later t (p ∷ ps) h = let high = h.0 in ((λ e. absurd (omega arith)), later t ps h.1)

  -- the ticket of the pair that comes is the list's
  pub pushed_is_of : (ps : List (Ticket × T)) (p : Ticket × T) → Rises ps p.0.number → IsOf (in_flight (ps ++ p ∷ []) (p.0.number + 1)) p.0
  pushed_is_of ps p r = (omega arith, all_both (Tells p.0) ps (p ∷ []) (others p.0 ps (below_next ps p.0.number r)) ((λ e. refl), tt))

  pub is_of_pushed : (ps : List (Ticket × T)) (next : ℕ) (p : Ticket × T) (t : Ticket) → p.0.number ≡ next → IsOf (in_flight ps next) t → IsOf (in_flight (ps ++ p ∷ []) (next + 1)) t
  is_of_pushed ps next p t new of = let low = of.0 in (omega arith, all_both (Tells t) ps (p ∷ []) of.1 ((λ e. absurd (omega arith)), tt))

  pub is_of_without : (f : InFlight T) (t : Ticket) (xs : List (Ticket × T)) (p : Ticket × T) (ys : List (Ticket × T)) → f.pairs ≡ xs ++ p ∷ ys → IsOf f t → IsOf (in_flight (xs ++ ys) f.next) t
  is_of_without f t xs p ys e of =
      let all = subst (AllByRecursion (Tells t)) e of.1 in (of.0, all_both (Tells t) xs ys (all_left (Tells t) xs (p ∷ ys) all) (all_right (Tells t) xs (p ∷ ys) all).1)

  -- where a pair has the number of a ticket that the list gave, the ticket is held
  pub found_held : (f : InFlight T) (t : Ticket) (xs : List (Ticket × T)) (p : Ticket × T) (ys : List (Ticket × T)) → f.pairs ≡ xs ++ p ∷ ys → p.0.number ≡ t.number → IsOf f t → Holds f.pairs t
  found_held f t xs p ys e number of =
      let is = (all_right (Tells t) xs (p ∷ ys) (subst (AllByRecursion (Tells t)) e of.1)).0 number in (xs, p.1, ys, e ∙ (λ j. xs ++ (is j, p.1) ∷ ys))

  at_cut : (xs : List (Ticket × T)) (t : Ticket) (x : T) (ys : List (Ticket × T)) (next : ℕ) → Rises (xs ++ (t, x) ∷ ys) next → (t.number < next) × AllByRecursion (Tells t) (xs ++ (t, x) ∷ ys)
  at_cut [] t x ys next r = (r.0, ((λ e. refl), later t ys r.1))
  at_cut (p ∷ xs) t x ys next r =
      let on = at_cut xs t x ys next r.2 in let low = (all_right (λ (q : Ticket × T). p.0.number < q.0.number) xs ((t, x) ∷ ys) r.1).0 in
      (on.0, ((λ e. absurd (omega arith)), on.1))

  -- a ticket that is held is the list's
  pub held_is_of : (f : InFlight T) (t : Ticket) → Rises f.pairs f.next → Holds f.pairs t → IsOf f t
  held_is_of f t r h =
      let on = at_cut h.0 t h.1 h.2 f.next (subst (λ ps. Rises ps f.next) h.3 r) in (on.0, subst (AllByRecursion (Tells t)) (sym h.3) on.1)
