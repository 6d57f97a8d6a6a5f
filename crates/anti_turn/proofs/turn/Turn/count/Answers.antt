use Rattle.std.proofs.Common.{rules}
use Rattle.anti_turn.proofs.Keeps.{counts}
use Rattle.anti_turn.proofs.turn.Turn.count.Goals as goal

pub load-requires : goal.load-requires
load-requires g c =
    let l = g.T.Listed in
    (search rules, search rules, counts l.list l.by l.fixed l.mark _ _ _ _ c.seat.invariant.rest.live)
