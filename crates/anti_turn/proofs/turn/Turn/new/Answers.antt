use Rattle.std.proofs.Common.{◌≡◌, List, [], ◌∷◌, Option, Some, ap, sym, subst, arith}
use Rattle.std.proofs.lemmas.Grind.{common_steps}
use Rattle.atomic_table.specs.Table.{opening}
use Rattle.anti_turn.specs.inner.Views.{first_view}
use Rattle.anti_turn.specs.inner.Rules.{IsKept}
use Rattle.anti_turn.proofs.Keeps.{opens}
use Rattle.anti_turn.proofs.turn.Turn.new.Goals as goal

pub new-requires : goal.new-requires
new-requires g c =
    let l = g.T.Listed in
    let part = l.fixed c.of-key.result.value in
    let items : c.push_reserved.new.self.items ≡ Some c.args.value ∷ [] = grind (arith, common_steps) in
    subst (λ (xs : List (Option g.row.T.Denot)). IsKept l.list l.by l.fixed l.mark part (opening (0 ∷ 4294967297 ∷ 0 ∷ 0 ∷ 0 ∷ 0 ∷ 0 ∷ 0 ∷ 0 ∷ 0 ∷ []) xs (first_view part))) (sym items)
    (opens l.list l.by l.fixed l.mark part c.args.value c.requires (ap l.fixed (sym c.of-key.ensures)))
