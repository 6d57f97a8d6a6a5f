use Rattle.std.proofs.Common.{IfSome}
use Rattle.anti_flight.specs.Tickets.{Holds}
use Rattle.test_libraries.proofs.flight.nth.Given as goal

abbrev pub invariant-loop : goal.invariant-loop
invariant-loop l = IfSome l.at (λ ticket. Holds l.list.pairs ticket)
