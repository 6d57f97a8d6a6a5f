use Rattle.std.proofs.Common.{List, sym, ap, ◌∙◌}
use Rattle.std.specs.Prelude.{Box, Result}
use Rattle.std.specs.declared.alloc.Global.{Global}
use Rattle.anti_proc.specs.declared.cursor.Cursor.{Cursor}
use Rattle.anti_proc.specs.declared.end.BodyEnd.{BodyEnd}
use Rattle.anti_proc.specs.declared.run.Going.{Going}
use Rattle.anti_proc.specs.declared.variables.Variable.{Variable}
use Rattle.anti_proc.specs.inner.Going.{going_tree}
use Rattle.anti_proc.specs.inner.Standing.{going, local_by, setting, stage_or}
use Rattle.anti_proc.proofs.run.Run.go_on.Goals as goal

pub returns-in-Err-clause-goes : goal.returns-in-Err-clause-goes
returns-in-Err-clause-goes c =
    let app = c.args.app.now in
    let r = c.args.self.now in
    let before = c.as_slice-before.result.now in
    ap (λ (gone : Result (Box Going Global) BodyEnd). going_tree app r.given c.go.new.self.before.now gone) (sym c.in-Err.is)
    ∙ c.in-Ok-going.ensures.goes app r.given
    ∙ c.in-Ok-go.ensures.goes
    ∙ ap (λ (at : Cursor). stage_or c.args.stage (setting app r.given) (local_by c.args.changes before) (going app r.given at)) c.in-Ok.ensures
    ∙ ap (λ (at : Going). stage_or c.args.stage (setting app r.given) (local_by c.args.changes before) (going app r.given at.cursor)) c.deref.ensures
    ∙ ap (λ (vs : List Variable). stage_or c.args.stage (setting app r.given) (local_by c.args.changes vs) (going app r.given r.at.value.cursor)) c.as_slice-before.ensures
