use Rattle.std.proofs.Common.{◌≤◌, arith}
use Rattle.anti_ids.specs.declared.limits.TheConstants.{MOST_UNITS}
use Rattle.anti_kind.proofs.Bounds.{length_within}
use Rattle.anti_kind.proofs.recorded.Recorded.entry.Goals as goal
use Rattle.anti_kind.proofs.recorded.Recorded.entry.Goals.{After-len}
use Rattle.anti_kind.proofs.recorded.Recorded.entry.Given as given

counted : (g : given.Over) (c : After-len g) → c.len.result ≤ MOST_UNITS
counted g c =
    let at = c.self.invariant.stands_for in
    omega (arith, c.len.ensures, length_within (g.M.Machine.start c.self.inside.machine) c.self.inside.history.items at.sane at.legal)

pub overflow_cast-place : goal.overflow_cast-place
overflow_cast-place g c = omega (arith, counted g (goal.at.overflow_cast-place g c).After-len)

pub overflow_add-place : goal.overflow_add-place
overflow_add-place g c = omega (arith, counted g (goal.at.overflow_add-place g c).After-len)
