use Rattle.std.proofs.Common.{rules, ◌≡◌, true, Some, ap, ◌∙◌, sym, subst}
use Rattle.anti_turn.specs.Lists.{Adds}
use Rattle.anti_turn.specs.Places.{Place}
use Rattle.anti_turn.proofs.Keeps.{frees_turn}
use Rattle.anti_turn.proofs.Shown.{filled_slot, freed_sits}
use Rattle.anti_turn.proofs.turn.Turn.leave.Goals as goal

pub swap-requires : goal.swap-requires
swap-requires g c =
    let l = g.T.Listed in
    let value = c.args.held.value in
    let me = c.seat.inside.seat.me in
    let holds : me.0.holds ≡ true = ap (λ (p : Place g.row.T-Entry.Denot g.row.T-Fixed.Denot). p.holds) c.seat.view_is ∙ c.requires.holds in
    let adds : Adds l.by me.0.number me.0.seen (l.list value) =
    subst (λ (p : Place g.row.T-Entry.Denot g.row.T-Fixed.Denot). Adds l.by p.number p.seen (l.list value)) (sym c.seat.view_is) c.requires.list in
    let fixed : me.0.fixed ≡ Some (l.fixed value) = ap (λ (p : Place g.row.T-Entry.Denot g.row.T-Fixed.Denot). p.fixed) c.seat.view_is ∙ c.requires.fixed in (
      search rules,
      search rules,
      frees_turn l.list l.by l.fixed l.mark _ _ _ me.0 value c.seat.invariant.rest holds adds fixed l.rises _
          (filled_slot me c.exchange-nothing.new.seat.me value c.seat.invariant.slots holds c.exchange-nothing.ensures.3),
    )

pub invariant_of-seat : goal.invariant_of-seat
invariant_of-seat g c =
    let value = c.args.held.value in
    let me = c.seat.inside.seat.me in
    let holds : me.0.holds ≡ true = ap (λ (p : Place g.row.T-Entry.Denot g.row.T-Fixed.Denot). p.holds) c.seat.view_is ∙ c.requires.holds in
    let filled = filled_slot me c.exchange-nothing.new.seat.me value c.seat.invariant.slots holds c.exchange-nothing.ensures.3 in
    freed_sits g.T.Listed.list me _ c.swap.new.seat.me value _ _ c.seat.invariant filled c.swap.ensures.2
