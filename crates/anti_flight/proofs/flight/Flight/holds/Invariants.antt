use Rattle.std.proofs.Common.{◌≡◌, drop}
use Rattle.anti_flight.specs.Tickets.{first_ticket, has_number}
use Rattle.anti_flight.proofs.flight.Flight.holds.Given as goal

-- the pairs that are left decide
abbrev pub invariant-loop : goal.invariant-loop
invariant-loop g l = (l.at ≡ first_ticket (drop l.counter l.self.pairs)) × (has_number l.ticket.number (drop l.counter l.self.pairs) ≡ has_number l.ticket.number l.self.pairs)
