use Rattle.std.proofs.Common.{rules}
use Rattle.anti_turn.proofs.Shown.{taken_slot}
use Rattle.anti_turn.proofs.turn.Turn.enter.Goals as goal

pub exchange-slot-requires : goal.exchange-slot-requires
exchange-slot-requires g c =
    let l = g.T.Listed in
    (search rules, taken_slot l.list l.by l.fixed l.mark c.seat.inside.seat.me c.take.new.seat.me c.take.ensures.taken)
