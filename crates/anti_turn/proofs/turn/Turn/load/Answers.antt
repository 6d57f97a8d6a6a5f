use Rattle.std.proofs.Common.{rules, arith}
use Rattle.anti_turn.proofs.Keeps.{marks_show}
use Rattle.anti_turn.proofs.turn.Turn.load.Goals as goal

pub load-requires : goal.load-requires
load-requires g c =
    let l = g.T.Listed in
    (search rules, search rules, marks_show l.list l.by l.fixed l.mark _ _ _ _ _ c.args.word (omega arith) c.seat.invariant.rest.live)
