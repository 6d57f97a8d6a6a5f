use Rattle.anti_replicas.proofs.Backlogs.{IsPast}
use Rattle.anti_replicas.proofs.backlog.ticket_of.Given as goal

-- those up to here have other versions
abbrev pub invariant-loop : goal.invariant-loop
invariant-loop l = IsPast l.group l.counter l.at l.flight.pairs
