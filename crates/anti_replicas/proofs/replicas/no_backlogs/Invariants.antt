use Rattle.std.proofs.Common.{◌≡◌, [], replicate}
use Rattle.anti_flight.specs.Queued.{queued}
use Rattle.anti_replicas.proofs.replicas.no_backlogs.Given as goal

abbrev pub invariant-loop : goal.invariant-loop
invariant-loop l = l.backlogs.items ≡ replicate l.counter (queued [] 0)
