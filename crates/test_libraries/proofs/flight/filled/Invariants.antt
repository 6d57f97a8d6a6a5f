use Rattle.std.proofs.Common.{◌≡◌, length}
use Rattle.test_libraries.proofs.flight.filled.Given as goal

abbrev pub invariant-loop-letter : goal.invariant-loop-letter
invariant-loop-letter l = (l.list.next ≡ l.letter-index) × (length l.list.pairs ≡ l.letter-index)
