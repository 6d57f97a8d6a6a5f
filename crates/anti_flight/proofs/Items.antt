-- Pairs: their items, and the pair at an index.
use Rattle.std.proofs.Common.{◌≡◌, ℕ, zero, suc, List, [], ◌∷◌, ◌++◌, length, take, drop, Option, Some, refl, ap}
use Rattle.anti_flight.specs.declared.ticket.Ticket.{Ticket}
use Rattle.anti_flight.specs.Queued.{items_of}
use Rattle.anti_flight.specs.Tickets.{first_ticket}

module _ {T : Type 0} where
  pub length_items : (ps : List (Ticket × T)) → length (items_of ps) ≡ length ps
  length_items [] = refl
  length_items (p ∷ ps) = ap suc (length_items ps)

  pub items_append : (xs ys : List (Ticket × T)) → items_of (xs ++ ys) ≡ items_of xs ++ items_of ys
  items_append [] ys = refl
  items_append (x ∷ xs) ys = ap (λ (items : List T). x.1 ∷ items) (items_append xs ys)

  -- the pairs from an index on begin with the pair of their first ticket
  pub at_index : (i : ℕ) (ps : List (Ticket × T)) (t : Ticket) → first_ticket (drop i ps) ≡ Some t
      → (x : T) × (drop i ps ≡ (t, x) ∷ drop (suc i) ps) × (ps ≡ take i ps ++ (t, x) ∷ drop (suc i) ps)
  at_index zero [] t e = absurd cc
  at_index zero (p ∷ ps) t e = let same : p.0 ≡ t = cc in (p.1, (λ j. (same j, p.1) ∷ ps), (λ j. (same j, p.1) ∷ ps))
  at_index (suc i) [] t e = absurd cc
  at_index (suc i) (p ∷ ps) t e = let on = at_index i ps t e in (on.0, on.1, ap (λ (l : List (Ticket × T)). p ∷ l) on.2)
