use Rattle.std.proofs.Common.{IfSome}
use Rattle.anti_flight.specs.Tickets.{Holds}
use Rattle.test_libraries.proofs.flight.has.Given as goal

abbrev pub invariant-loop-letter : goal.invariant-loop-letter
invariant-loop-letter l = IfSome l.at (λ ticket. Holds l.list.pairs ticket)
