use Rattle.std.proofs.Common.{◌≡◌, false}
use Rattle.test_libraries.proofs.turn.work.Given as goal

-- the seat is of the turn, and free
abbrev pub invariant-loop : goal.invariant-loop
invariant-loop g l = (l.seat.id ≡ l.initial.seat.id) × (l.seat.holds ≡ false)
