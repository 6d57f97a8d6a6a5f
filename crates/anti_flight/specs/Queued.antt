-- What is seen of a list by one who keeps no tickets: its items alone, and how many ever came.
use Rattle.std.specs.Prelude.{ℕ, List, map, refl}
use Rattle.std.specs.Coded.{Coded, code_by, coded×, coded_list, coded_ℕ}
use Rattle.anti_flight.specs.declared.ticket.Ticket.{Ticket}
use Rattle.anti_flight.specs.Tickets.{InFlight}

pub record Queued (T : Type 0) : Type 0 where
  -- in their order
  pub items : List T
  -- how many came, with those that left
  pub next : ℕ

module _ {T : Type 0} where
  abbrev pub queued : List T → ℕ → Queued T
  queued items next = record { items = items; next = next }

  abbrev pub queued_code : Coded T → Coded (Queued T)
  queued_code c = code_by (List T × ℕ) (coded× (coded_list c) coded_ℕ) (λ q. (q.items, q.next)) (λ p. queued p.0 p.1) (λ _. refl)

  -- the items of pairs
  abbrev pub items_of : List (Ticket × T) → List T
  items_of = map (λ (p : Ticket × T). p.1)

  abbrev pub seen : InFlight T → Queued T
  seen f = queued (items_of f.pairs) f.next
