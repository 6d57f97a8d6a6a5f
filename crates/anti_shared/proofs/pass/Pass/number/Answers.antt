use Rattle.std.proofs.Common.{subst}
use Rattle.anti_shared.specs.Passes.{PassView, IsPass}
use Rattle.anti_shared.proofs.Seated.{is_pass}
use Rattle.anti_shared.proofs.pass.Pass.number.Goals as goal

pub returns-clause-knows : goal.returns-clause-knows
returns-clause-knows g c =
    subst (λ (p : PassView g.row.M.Denot). IsPass g.M.Machine.start p) c.self.view_is (is_pass g.M.Machine.start c.self.inside.seat c.self.inside.raised c.self.invariant)
