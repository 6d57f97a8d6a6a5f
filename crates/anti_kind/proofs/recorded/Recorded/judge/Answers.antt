use Rattle.std.proofs.Common.{◌+◌, ◌≤◌, sym, ◌∙◌, arith}
use Rattle.anti_ids.specs.declared.limits.TheConstants.{MOST_UNITS}
use Rattle.anti_kind.proofs.Bounds.{within_units}
use Rattle.anti_kind.proofs.Making.{goes, is_spent}
use Rattle.anti_kind.proofs.recorded.Recorded.judge.Goals as goal
use Rattle.anti_kind.proofs.recorded.Recorded.judge.Goals.{After-owed-owed}
use Rattle.anti_kind.proofs.recorded.Recorded.judge.Given as given

counted : (g : given.Over) (c : After-owed-owed g) → c.held-held.result + c.owed-owed.result ≤ MOST_UNITS
counted g c =
    let at = c.self.invariant.stands_for in
    let h = c.self.inside.history.items in
    omega (arith, c.held-held.ensures h at, c.owed-owed.ensures h at, within_units (g.M.Machine.start c.self.inside.machine) h at.sane at.legal)

pub overflow_add-held : goal.overflow_add-held
overflow_add-held g c = omega (arith, counted g (goal.at.overflow_add-held g c).After-owed-owed)

pub overflow_sub-held : goal.overflow_sub-held
overflow_sub-held g c = omega (arith, counted g (goal.at.overflow_sub-held g c).After-owed-owed)

pub returns-then-clock-clause-refused : goal.returns-then-clock-clause-refused
returns-then-clock-clause-refused g c =
    let at = c.self.invariant.stands_for in
    let h = c.self.inside.history.items in
    let can = sym (c.ready.ensures h at) ∙ c.if-not-ready.false in
    rw (← c.self.view_is)
    (is_spent (g.M.Machine.start c.self.inside.machine) h c.args.asking.now c.held-held.result c.owed-owed.result c.need-need.result
    (c.held-held.ensures h at) (c.owed-owed.ensures h at) (c.need-need.ensures h at) (omega (arith, counted g (goal.at.returns-then-clock-clause-refused g c).After-owed-owed)) c.max-clock.result can (omega (arith, c.self.invariant.last_is)) (omega arith))

pub returns-clause-goes : goal.returns-clause-goes
returns-clause-goes g c =
    let at = c.self.invariant.stands_for in
    let h = c.self.inside.history.items in
    let can = sym (c.ready.ensures h at) ∙ c.if-not-ready.false in
    rw (← c.self.view_is)
    (goes (g.M.Machine.start c.self.inside.machine) h c.args.asking.now c.held-held.result c.owed-owed.result c.need-need.result
    (c.held-held.ensures h at) (c.owed-owed.ensures h at) (c.need-need.ensures h at) (omega (arith, counted g (goal.at.returns-clause-goes g c).After-owed-owed)) can (omega (arith, c.self.invariant.last_is)))
