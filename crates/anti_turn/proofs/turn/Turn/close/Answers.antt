use Rattle.std.proofs.Common.{◌≡◌, Some, ap, ◌∙◌, sym, eq-eqb}
use mathlib.Core.Option as home
use Rattle.anti_turn.specs.Places.{Place}
use Rattle.anti_turn.proofs.Keeps.{closes}
use Rattle.anti_turn.proofs.Shown.{closed_place, closed_marks}
use Rattle.anti_turn.proofs.turn.Turn.close.Goals as goal

pub unreachable-requires : goal.unreachable-requires
unreachable-requires g c =
    let l = g.T.Listed in
    let sits = c.into_parts-seat.ensures.sits.1 in
    let shown = sym c.into_parts-seat.ensures.shown ∙ c.count.ensures.seat in
    let free = ap (λ (p : Place g.row.T-Entry.Denot g.row.T-Fixed.Denot). p.holds) shown ∙ c.requires.free in
    let alone = ap (λ (p : Place g.row.T-Entry.Denot g.row.T-Fixed.Denot). p.alone) shown ∙ eq-eqb c.count.result 1 c.if-count-ne-ALONE.false in
    let found = closes l.list l.by l.fixed l.mark _ _ _ _ _ c.close_with-closed.ensures.values.2 sits.rest.live free alone in
    let is : c.take-slot.result ≡ Some found.0 = home.some-injective c.take-slot.result (Some found.0) (sym c.take-slot.ensures.value ∙ found.1) in
    c.in_default.not-Some found.0 is

pub returns-clause-ok : goal.returns-clause-ok
returns-clause-ok g c =
    let l = g.T.Listed in
    let sits = c.into_parts-seat.ensures.sits.1 in
    let shown = sym c.into_parts-seat.ensures.shown ∙ c.count.ensures.seat in
    let free = ap (λ (p : Place g.row.T-Entry.Denot g.row.T-Fixed.Denot). p.holds) shown ∙ c.requires.free in
    let alone = ap (λ (p : Place g.row.T-Entry.Denot g.row.T-Fixed.Denot). p.alone) shown ∙ eq-eqb c.count.result 1 c.if-count-ne-ALONE.false in
    let found = closes l.list l.by l.fixed l.mark _ _ _ _ _ c.close_with-closed.ensures.values.2 sits.rest.live free alone in
    let is : c.take-slot.result ≡ Some found.0 = home.some-injective c.take-slot.result (Some found.0) (sym c.take-slot.ensures.value ∙ found.1) in
    let both : Some found.0 ≡ Some c.in-Some.value = sym is ∙ c.in-Some.is in
    let same : found.0 ≡ c.in-Some.value = cc in
    closed_place l.list l.by l.fixed _ c.into_parts-seat.result.0.me.0 _ _ _ _ shown same found.2 found.3 found.4

pub returns-clause-loaded : goal.returns-clause-loaded
returns-clause-loaded g c =
    let l = g.T.Listed in
    let sits = c.into_parts-seat.ensures.sits.1 in
    let shown = sym c.into_parts-seat.ensures.shown ∙ c.count.ensures.seat in
    let free = ap (λ (p : Place g.row.T-Entry.Denot g.row.T-Fixed.Denot). p.holds) shown ∙ c.requires.free in
    let alone = ap (λ (p : Place g.row.T-Entry.Denot g.row.T-Fixed.Denot). p.alone) shown ∙ eq-eqb c.count.result 1 c.if-count-ne-ALONE.false in
    let found = closes l.list l.by l.fixed l.mark _ _ _ _ _ c.close_with-closed.ensures.values.2 sits.rest.live free alone in
    let is : c.take-slot.result ≡ Some found.0 = home.some-injective c.take-slot.result (Some found.0) (sym c.take-slot.ensures.value ∙ found.1) in
    let both : Some found.0 ≡ Some c.in-Some.value = sym is ∙ c.in-Some.is in
    let same : found.0 ≡ c.in-Some.value = cc in
    closed_marks l.list l.by l.fixed l.mark _ c.into_parts-seat.result.0.me.0 c.args.seat c.count.result _ _ shown same found.5
