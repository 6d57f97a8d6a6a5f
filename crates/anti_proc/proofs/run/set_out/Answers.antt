use Rattle.std.proofs.Common.{◌∙◌, ℕ, ap, sym, subst}
use Rattle.std.specs.Prelude.{[]}
use Rattle.std.proofs.lemmas.Result.{IfOk-weaker}
use Rattle.anti_proc.specs.inner.Going.{going_tree}
use Rattle.anti_proc.specs.inner.Running.{HasSpans}
use Rattle.anti_proc.specs.inner.Standing.{local_by}
use Rattle.anti_proc.proofs.Settling.{begins, begins_spans}
use Rattle.anti_proc.proofs.run.set_out.Goals as goal

pub go-requires-clause-spans : goal.go-requires-clause-spans
go-requires-clause-spans c =
    subst (λ (n : ℕ). HasSpans c.args.app.now c.args.given.now.role c.start-cursor.result n) (sym c.requires.first)
    (begins_spans c.args.app.now c.args.given.now.role c.start-cursor.result c.requires.app c.start-cursor.ensures)

pub returns-clause-tree : goal.returns-clause-tree
returns-clause-tree c =
    IfOk-weaker c.going.result _ _
    (λ gone goes. ap (λ before. going_tree c.args.app.now c.args.given.now before.now gone) (sym c.go.ensures.before)
    ∙ goes c.args.app.now c.args.given.now
    ∙ c.in_ok-stage.ensures.goes
    ∙ begins c.args.app.now c.args.given.now c.start-cursor.result (local_by c.args.changes []) c.start-cursor.ensures)
    c.going.ensures.goes
