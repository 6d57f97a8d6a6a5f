use Rattle.std.proofs.Common.{◌≡◌, length}
use Rattle.test_libraries.proofs.flight.fills_or_keeps.Given as goal

abbrev pub invariant-loop-index : goal.invariant-loop-index
invariant-loop-index l = (l.list.next ≡ l.index) × (length l.list.pairs ≡ l.index)
