use Rattle.std.proofs.Common.{rules, sym, subst}
use Rattle.anti_turn.specs.inner.Steps.{Hand}
use Rattle.anti_turn.specs.inner.Views.{IsAtRest}
use Rattle.anti_turn.proofs.Keeps.{takes_turn, awaits_turn}
use Rattle.anti_turn.proofs.turn.Turn.take.Goals as goal

pub compare_exchange-requires : goal.compare_exchange-requires
compare_exchange-requires g c =
    let l = g.T.Listed in
    (search rules, search rules, takes_turn l.list l.by l.fixed l.mark _ _ _ _ c.requires.rest)

pub swap-requires : goal.swap-requires
swap-requires g c =
    let l = g.T.Listed in
    let rest = subst (λ (m : Hand g.row.T.Denot g.row.T-Entry.Denot g.row.T-Fixed.Denot). IsAtRest m.0) (sym c.loop.invariant.me) c.requires.rest in
    (search rules, search rules, awaits_turn l.list l.by l.fixed l.mark _ _ _ _ rest)
