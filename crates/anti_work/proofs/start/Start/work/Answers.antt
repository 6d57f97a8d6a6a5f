-- What the worker did is told by the number that it started with.
use Rattle.std.proofs.Common.{ℕ, sym, subst}
use Rattle.std.specs.Prelude.{IfOk}
use Rattle.anti_work.specs.inner.Rounds.{IsAtWork}
use Rattle.anti_work.specs.inner.Starting.{HasWorked}
use Rattle.anti_work.proofs.AtWork.{start_works}
use Rattle.anti_work.proofs.start.Start.work.Goals as goal

pub worker-requires-clause-knows : goal.worker-requires-clause-knows
worker-requires-clause-knows g c = c.requires.may.knows

pub rounds-requires-clause-work : goal.rounds-requires-clause-work
rounds-requires-clause-work g c =
    subst (λ (n : ℕ). IsAtWork c.args.app.now c.args.shared.now n c.in_ok-worker.worker) (sym c.in_ok-worker.ensures.number)
    (start_works c.args.app.now c.args.shared.now c.args.self c.in_ok-worker.worker c.requires.may c.in_ok-worker.ensures)

pub returns : goal.returns
returns g c = subst (λ (n : ℕ). IfOk c.rounds.result (HasWorked c.args.app.now c.args.shared.now n)) c.in_ok-worker.ensures.number c.rounds.ensures
