use Rattle.std.proofs.Common.{◌≡◌, drop}
use Rattle.anti_flight.specs.Tickets.{first_ticket}
use Rattle.anti_inbox.proofs.Leaving.{Cleared}
use Rattle.anti_inbox.proofs.deliveries.unlink_all.Given as goal

-- the deliveries up to here are without those of the message
abbrev pub invariant-loop : goal.invariant-loop
invariant-loop l = record {
  here : l.at ≡ first_ticket (drop l.counter l.initial.flight.pairs);
  next : l.flight.next ≡ l.initial.flight.next;
  cleared : Cleared l.number l.initial.flight.pairs l.counter l.flight.pairs;
}
