-- How a list stands for its pairs.
use Rattle.std.specs.Prelude.{◌≡◌, ℕ, List, [], Option, Some, None, map, length}
use Rattle.anti_flight.specs.Tickets.{InFlight, in_flight, Rises}
use Rattle.anti_flight.specs.inner.Linked.{Linked}
use Rattle.anti_flight.specs.declared.held.Held.{Held}
use Rattle.anti_flight.specs.declared.ticket.Ticket.{Ticket}

-- the nodes between the ends, of which there are none before there are ends
abbrev pub nodes_of : {X : Type 0} → Option (List X) → List X
nodes_of None = []
nodes_of (Some ns) = ns

module _ {T : Type 0} where
  abbrev pub ticket_of : Linked (Held T) → Ticket
  ticket_of n = record { number = n.value.number; place = record { ptr = n.place } }

  abbrev pub pair_of : Linked (Held T) → Ticket × T
  pair_of n = (ticket_of n, n.value.item)

  abbrev pub pairs_of : List (Linked (Held T)) → List (Ticket × T)
  pairs_of = map pair_of

  abbrev pub shown : Option (List (Linked (Held T))) → ℕ → InFlight T
  shown ends next = in_flight (pairs_of (nodes_of ends)) next

  abbrev pub Stands : Option (List (Linked (Held T))) → ℕ → ℕ → Type 0
  Stands ends len next = (len ≡ length (nodes_of ends)) × Rises (pairs_of (nodes_of ends)) next
