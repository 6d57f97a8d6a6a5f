-- What comes behind a node of a chain and before it, where the ends count as nodes.
use Rattle.std.proofs.Common.{◌≡◌, List, [], ◌∷◌, ◌++◌, ap, ◌∙◌, append_assoc}
use denote.RawPtr.{Ptr}
use Rattle.anti_flight.specs.inner.Linked.{Linked, places, ring, HasNext, HasPrev}
use Rattle.anti_flight.proofs.Splits.{last_from, cut_last, first_of_push}
use Rattle.anti_flight.proofs.Apart.{places_cut}

module _ {T : Type 0} (head : Ptr) (ns : List (Linked T)) (tail : Ptr) where
  -- something lies behind the head
  pub some_first : (p : Ptr) × HasNext (ring head ns tail) head p
  some_first = let on = first_of_push (places ns) tail in (on.0, ([], on.1, ap (λ l. head ∷ l) on.2))

  pub has_first : (n : Linked T) (rest : List (Linked T)) → ns ≡ n ∷ rest → HasNext (ring head ns tail) head n.place
  has_first n rest e = ([], places rest ++ tail ∷ [], ap (λ l. head ∷ (places l ++ tail ∷ [])) e)

  -- something lies before the tail
  pub some_last : (p : Ptr) × HasPrev (ring head ns tail) tail p
  some_last =
      let on = cut_last head (places ns) in
      (last_from head (places ns), (on.0, [], ap (λ l. l ++ tail ∷ []) on.1 ∙ append_assoc on.0 (last_from head (places ns) ∷ []) (tail ∷ [])))

  pub has_last : (rest : List (Linked T)) (n : Linked T) → ns ≡ rest ++ n ∷ [] → HasPrev (ring head ns tail) tail n.place
  has_last rest n e = (head ∷ places rest, [], ap (λ l. head ∷ (places l ++ tail ∷ [])) e ∙ ap (λ l. head ∷ l) (places_cut rest n [] tail))

  -- something lies behind each node
  pub some_after : (xs : List (Linked T)) (n : Linked T) (ys : List (Linked T)) → ns ≡ xs ++ n ∷ ys → (p : Ptr) × HasNext (ring head ns tail) n.place p
  some_after xs n ys e =
      let on = first_of_push (places ys) tail in
      (on.0, (head ∷ places xs, on.1, ap (λ l. head ∷ (places l ++ tail ∷ [])) e ∙ ap (λ l. head ∷ l) (places_cut xs n ys tail ∙ ap (λ l. places xs ++ n.place ∷ l) on.2)))

  pub has_after : (xs : List (Linked T)) (n m : Linked T) (rest : List (Linked T)) → ns ≡ xs ++ n ∷ m ∷ rest → HasNext (ring head ns tail) n.place m.place
  has_after xs n m rest e =
      (head ∷ places xs, places rest ++ tail ∷ [], ap (λ l. head ∷ (places l ++ tail ∷ [])) e ∙ ap (λ l. head ∷ l) (places_cut xs n (m ∷ rest) tail))
