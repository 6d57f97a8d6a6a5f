use Rattle.std.proofs.Common.{◌≡◌}
use Rattle.std.specs.List.{range_with_len}
use Rattle.anti_flight.specs.Queued.{queued}
use Rattle.anti_inbox.proofs.inbox.deliveries.Given as goal

abbrev pub invariant-loop-before : goal.invariant-loop-before
invariant-loop-before l = l.deliveries ≡ queued (range_with_len 1 l.before) l.before
