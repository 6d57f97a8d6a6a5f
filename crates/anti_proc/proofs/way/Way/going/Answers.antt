use Rattle.std.proofs.Common.{sym, ap, ◌∙◌}
use Rattle.anti_proc.specs.declared.next.Stage.{Stage}
use Rattle.anti_proc.specs.declared.run.Going.{Going}
use Rattle.anti_proc.specs.inner.Standing.{going, local_by, local_in, next_tree, setting, stage_tree}
use Rattle.anti_proc.proofs.way.Way.going.Goals as goal

pub returns-in-Ok-clause-goes : goal.returns-in-Ok-clause-goes
returns-in-Ok-clause-goes c = λ app given.
    let way = c.args.self in
    ap (λ (g : Going). next_tree g.next (setting app given) (local_by g.changes way.before.now) (going app given g.cursor)) c.in-Ok.ensures.ok
    ∙ ap (λ (stage : Stage). stage_tree stage (setting app given) (local_in way) (going app given way.cursor)) (sym c.in-Asks.is)
