use Rattle.std.proofs.Common.{rules, ◌<◌, sym, subst}
use Rattle.anti_turn.specs.Places.{Place}
use Rattle.anti_turn.proofs.Keeps.{raises, splits}
use Rattle.anti_turn.proofs.turn.Turn.split.Goals as goal

pub fetch_add-found-requires : goal.fetch_add-found-requires
fetch_add-found-requires g c =
    let l = g.T.Listed in
    let room = subst (λ (p : Place g.row.T-Entry.Denot g.row.T-Fixed.Denot). 0 < p.room) (sym c.seat.view_is) c.requires.room in
    (search rules, search rules, raises l.list l.by l.fixed l.mark _ _ _ _ c.seat.invariant.rest room)

pub split_seat-new-requires : goal.split_seat-new-requires
split_seat-new-requires g c =
    let l = g.T.Listed in
    (search rules, search rules, splits l.list l.by l.fixed l.mark _ _ c.fetch_add-found.new.seat.me c.seat.inside.seat.me.0 _ _ c.fetch_add-found.ensures.2.0 c.seat.invariant.rest.live)
