use Rattle.std.proofs.Common.{◌≡◌, [], map}
use Rattle.std.specs.List.{range_with_len}
use Rattle.anti_inbox.specs.inner.Fates.{fate_of}
use Rattle.anti_inbox.proofs.inbox.fates.Given as goal

abbrev pub invariant-loop-before : goal.invariant-loop-before
invariant-loop-before l = l.fates.items ≡ map (fate_of []) (range_with_len 1 l._before)
