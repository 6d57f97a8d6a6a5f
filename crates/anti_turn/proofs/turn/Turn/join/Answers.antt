use Rattle.std.proofs.Common.{rules, ap, ◌∙◌, sym}
use Rattle.anti_turn.specs.Places.{Place, Round}
use Rattle.anti_turn.specs.inner.Seats.{held_slots}
use Rattle.anti_turn.proofs.Keeps.{joins, lowers}
use Rattle.anti_turn.proofs.Shown.{joined_place}
use Rattle.anti_turn.proofs.turn.Turn.join.Goals as goal

pub join_seat-requires : goal.join_seat-requires
join_seat-requires g c =
    let l = g.T.Listed in
    let sits = c.into_parts-seat.ensures.sits.1 in
    let shown = c.into_parts-seat.ensures.shown in
    let free = ap (λ (p : Place g.row.T-Entry.Denot g.row.T-Fixed.Denot). p.holds) c.into.view_is ∙ c.requires.into_free in
    let also_free = ap (λ (p : Place g.row.T-Entry.Denot g.row.T-Fixed.Denot). p.holds) (sym shown) ∙ c.requires.from_free in (
      search rules,
      ap (λ (p : Place g.row.T-Entry.Denot g.row.T-Fixed.Denot). p.id) (sym shown) ∙ (c.requires.from_turn ∙ ap (λ (r : Round g.row.T-Fixed.Denot). r.id) (sym c.self.view_is)),
      sits.slots ∙ ap held_slots also_free,
      search rules,
      joins l.list l.by l.fixed l.mark _ _ _ _ _ c.into.invariant.rest.live free sits.rest also_free,
    )

pub fetch_sub-requires : goal.fetch_sub-requires
fetch_sub-requires g c =
    let l = g.T.Listed in
    (search rules, search rules, lowers l.list l.by l.fixed l.mark _ _ _ _ c.into.inside.seat.me.0 c.into_parts-seat.result.0.me.0 _ c.join_seat.ensures.2 c.into.invariant.rest.live)

pub returns : goal.returns
returns g c =
    joined_place g.T.Listed.by _ _ _ c.into.inside.seat.me.0 c.into_parts-seat.result.0.me.0 _ _ c.self.inside.table.shared.table_id.slots c.fetch_sub.result
    _ _ _ c.into.view_is c.into_parts-seat.ensures.shown (c.fetch_sub.ensures.0 ∙ c.join_seat.ensures.0) c.into.invariant.rest.live c.join_seat.ensures.2
    c.fetch_sub.ensures.2
