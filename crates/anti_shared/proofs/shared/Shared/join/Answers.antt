use Rattle.std.proofs.Common.{◌≡◌, ap, sym, ◌∙◌, refl}
use Rattle.anti_shared.specs.Passes.{PassView}
use Rattle.anti_shared.specs.inner.Seating.{pass_of}
use Rattle.anti_shared.proofs.Seated.{seated_join, joined_pass}
use Rattle.anti_shared.proofs.shared.Shared.join.Goals as goal

pub invariant_of-into : goal.invariant_of-into
invariant_of-into g c =
    let same : (pass_of c.into.inside.seat).id ≡ (pass_of c.from.inside.seat).id =
    ap (λ (p : PassView g.row.M.Denot). p.id) c.into.view_is ∙ c.requires.into_of ∙ sym c.requires.from_of ∙ sym (ap (λ (p : PassView g.row.M.Denot). p.id) c.from.view_is) in
    seated_join g.M.Machine.start c.into.inside.seat c.from.inside.seat c.join.new.into c.into.inside.raised c.from.inside.raised c.raise_to.new.raised c.join.ensures same
    c.raise_to.ensures c.into.invariant c.from.invariant

pub returns : goal.returns
returns g c =
    joined_pass c.into.inside.seat c.from.inside.seat c.join.new.into c.args.into.now c.args.from _ c.into.view_is c.from.view_is refl c.join.ensures
