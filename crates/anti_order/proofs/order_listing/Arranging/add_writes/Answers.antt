use Rattle.std.proofs.Common.{◌≡◌, ◌&&◌, Bool, true, false, not, sym, ap, ◌∙◌, refl}
use Rattle.std.proofs.lemmas.Bool.{and_parts}
use Rattle.anti_order.specs.inner.NumberSets.{has}
use Rattle.anti_order.proofs.Kept.{runs_agree}
use Rattle.anti_order.proofs.order_listing.Arranging.add_writes.Goals as goal

-- of what is left that is taken which is left and of a past
taken : (p l : Bool) → (l && not (p && l)) ≡ (l && not p)
taken true true = refl
taken true false = refl
taken false l = refl

pub returns-clause-left : goal.returns-clause-left
returns-clause-left c = λ n.
    let p = has c.args.numbers n in
    let l = has c.args.self.now.left n in
    c.remove.ensures.kept n ∙ ap (λ (t : Bool). l && not t) (c.keep.ensures.kept n) ∙ taken p l

pub returns-clause-pieces : goal.returns-clause-pieces
returns-clause-pieces c = λ writes low.
    runs_agree writes _ _ c.args.self.now.pieces.items c.add_runs.new.pieces.items c.keep.ensures.kept
    (c.in_ok-add_runs.ensures writes
    (λ n is. low n (and_parts (has c.args.numbers n) (has c.args.self.now.left n) (sym (c.keep.ensures.kept n) ∙ is)).1))
