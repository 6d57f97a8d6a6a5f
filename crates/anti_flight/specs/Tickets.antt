-- What contracts see of a list: its pairs of a ticket and an item, and the number of the next ticket.
use Rattle.std.specs.Prelude.{◌≡◌, ℕ, ◌<◌, ◌==◌, Bool, false, ◌||◌, List, [], ◌∷◌, ◌++◌, Option, Some, None, ⊤, refl}
use Rattle.std.specs.List.{AllByRecursion}
use Rattle.std.specs.Coded.{Coded, code_by, coded×, coded_list, coded_ℕ}
use denote.RawPtr.{Ptr, coded_ptr}
use Rattle.anti_flight.specs.declared.ticket.Ticket.{Ticket}

-- a list
pub record InFlight (T : Type 0) : Type 0 where
  -- in their order
  pub pairs : List (Ticket × T)
  -- the number of the next ticket
  pub next : ℕ

abbrev ticket_code : Coded Ticket
ticket_code = code_by (ℕ × Ptr) (coded× coded_ℕ coded_ptr) (λ t. (t.number, t.place.ptr)) (λ p. record { number = p.0; place = record { ptr = p.1 } }) (λ _. refl)

module _ {T : Type 0} where
  abbrev pub in_flight : List (Ticket × T) → ℕ → InFlight T
  in_flight ps next = record { pairs = ps; next = next }

  abbrev pub in_flight_code : Coded T → Coded (InFlight T)
  in_flight_code c = code_by (List (Ticket × T) × ℕ) (coded× (coded_list (coded× ticket_code c)) coded_ℕ) (λ f. (f.pairs, f.next)) (λ p. in_flight p.0 p.1) (λ _. refl)

  -- the pair of this ticket is among the pairs
  abbrev pub Holds : List (Ticket × T) → Ticket → Type 0
  Holds ps t = (xs : List (Ticket × T)) × (x : T) × (ys : List (Ticket × T)) × (ps ≡ xs ++ (t, x) ∷ ys)

  -- P holds of the item of this ticket, with the pairs before it and those behind it
  abbrev pub AtTicket : List (Ticket × T) → Ticket → (List (Ticket × T) → T → List (Ticket × T) → Type 0) → Type 0
  AtTicket ps t P = (xs : List (Ticket × T)) (x : T) (ys : List (Ticket × T)) → ps ≡ xs ++ (t, x) ∷ ys → P xs x ys

  -- None where there is no pair
  abbrev pub first_ticket : List (Ticket × T) → Option Ticket
  first_ticket [] = None
  first_ticket (p ∷ ps) = Some p.0

  -- whether a pair has a ticket of this number
  abbrev pub has_number : ℕ → List (Ticket × T) → Bool
  has_number n [] = false
  has_number n (p ∷ ps) = (p.0.number == n) || has_number n ps

  -- the numbers of the tickets rise, and all are below that of the next: no two tickets are equal, and none is given again
  abbrev pub Rises : List (Ticket × T) → ℕ → Type 0
  Rises [] next = ⊤
  Rises (p ∷ ps) next = (p.0.number < next) × AllByRecursion (λ (q : Ticket × T). p.0.number < q.0.number) ps × Rises ps next

  -- so it is with each ticket that the list gave: its number was given, and a pair that has the number has the ticket
  abbrev pub IsOf : InFlight T → Ticket → Type 0
  IsOf f t = (t.number < f.next) × AllByRecursion (λ (p : Ticket × T). p.0.number ≡ t.number → p.0 ≡ t) f.pairs
