use Rattle.std.proofs.Common.{◌≡◌, Some, drop}
use Rattle.anti_flight.specs.Tickets.{Holds, first_ticket}
use Rattle.anti_inbox.proofs.deliveries.ticket_at.Given as goal

abbrev pub invariant-loop : goal.invariant-loop
invariant-loop l = (first_ticket (drop l.counter l.flight.pairs) ≡ Some l.at) × Holds l.flight.pairs l.at
