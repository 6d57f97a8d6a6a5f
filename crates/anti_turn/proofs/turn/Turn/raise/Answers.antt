use Rattle.std.proofs.Common.{rules, ◌≤◌, Option, IfSome, sym, subst, arith}
use Rattle.anti_turn.specs.Places.{Place}
use Rattle.anti_turn.proofs.Keeps.{marks_rise}
use Rattle.anti_turn.proofs.turn.Turn.raise.Goals as goal

pub fetch_max-requires : goal.fetch_max-requires
fetch_max-requires g c =
    let l = g.T.Listed in
    let me = c.seat.inside.seat.me in
    let most = subst (λ (p : Place g.row.T-Entry.Denot g.row.T-Fixed.Denot). IfSome p.fixed (λ part. c.args.n ≤ l.mark part c.args.word p.seen)) (sym c.seat.view_is) c.requires.under in (
      search rules,
      search rules,
      marks_rise l.list l.by l.fixed l.mark _ _ _ me _ c.args.word (omega arith) c.seat.invariant.rest.live c.args.n c.requires.word
          (λ part is. subst (λ (o : Option g.row.T-Fixed.Denot). IfSome o (λ x. c.args.n ≤ l.mark x c.args.word me.0.seen)) is most) l.rises,
    )
