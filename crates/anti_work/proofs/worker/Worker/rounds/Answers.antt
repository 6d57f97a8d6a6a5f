-- Each round leaves a worker at work, and the last tells that nothing more can be done, or that something foreign was met.
use Rattle.std.proofs.Common.{ℕ, Bool, map, sym, ap, ◌∙◌, subst}
use Rattle.std.specs.Prelude.{Err, Ok, Result}
use Rattle.anti_work.specs.declared.worker.Stop.{Stop}
use Rattle.anti_work.specs.inner.Rounds.{Comes, HasRoutes, RefusedIfPlain, ends_of}
use Rattle.anti_work.specs.inner.Trying.{AllRefused}
use Rattle.anti_work.proofs.AtWork.{stopped, worked, works_on}
use Rattle.anti_work.proofs.Many.{comes_as}
use Rattle.anti_work.proofs.worker.Worker.rounds.Goals as goal

pub loop-init : goal.loop-init
loop-init g c = c.requires.work

pub round-requires-clause-of : goal.round-requires-clause-of
round-requires-clause-of g c = c.loop.invariant.of

pub round-requires-clause-worker : goal.round-requires-clause-worker
round-requires-clause-worker g c = c.loop.invariant.worker

pub round-requires-clause-routes : goal.round-requires-clause-routes
round-requires-clause-routes g c =
    subst (λ (n : ℕ). HasRoutes c.args.app.now n (map ends_of c.loop.self.routes.items)) (sym c.loop.invariant.number_is) c.loop.invariant.routes

pub loop-preserved : goal.loop-preserved
loop-preserved g c =
    works_on c.args.app.now c.args.shared.now c.args.self.number c.loop.self c.round.new.self c.loop.invariant
    (RefusedIfPlain c.loop.plain c.args.app.now c.loop.self.number c.round.new.self) c.in-Ok.made c.in-Ok.ensures

pub returns-then-is_last : goal.returns-then-is_last
returns-then-is_last g c =
    worked c.args.app.now c.args.shared.now c.args.self.number c.loop.self c.round.new.self c.loop.invariant c.in-Ok.made (c.is_last.ensures.made c.if-is_last.true)
    (comes_as c.args.app.now c.args.shared.now c.loop.self c.round.new.self (RefusedIfPlain c.loop.plain c.args.app.now c.loop.self.number c.round.new.self)
    (AllRefused c.args.app.now c.loop.self.number c.round.new.self.passes.items) (Ok c.in-Ok.made) c.in-Ok.ensures
    (λ calls stands stays was. was (c.is_last.ensures.plain c.if-is_last.true)))
    c.into_done.result c.into_done.ensures

pub returns-in-Err-Foreign : goal.returns-in-Err-Foreign
returns-in-Err-Foreign g c =
    stopped c.args.app.now c.args.shared.now c.args.self.number c.loop.self c.round.new.self c.loop.invariant
    (RefusedIfPlain c.loop.plain c.args.app.now c.loop.self.number c.round.new.self)
    (subst (λ (r : Result Bool Stop). Comes c.args.app.now c.args.shared.now c.loop.self c.round.new.self (RefusedIfPlain c.loop.plain c.args.app.now c.loop.self.number c.round.new.self) r)
    (c.in-Err-Foreign.is ∙ ap Err c.in-Err-Foreign.field-0-is) c.round.ensures)
    c.into_done-in-Err-Foreign.result c.into_done-in-Err-Foreign.ensures
