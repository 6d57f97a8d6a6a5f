use Rattle.std.proofs.Common.{◌≡◌}
use Rattle.anti_turn.proofs.turn.Turn.take.Given as goal

-- a try that finds the turn taken changes nothing
abbrev pub invariant-loop : goal.invariant-loop
invariant-loop g l = record {
  here : l.seat.table_id ≡ l.fn.seat.table_id;
  me : l.seat.me ≡ l.fn.seat.me;
}
