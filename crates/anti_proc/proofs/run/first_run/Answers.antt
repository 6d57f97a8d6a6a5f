use Rattle.std.proofs.Common.{[], sym, ap, ◌∙◌}
use Rattle.std.specs.Prelude.{Box, Result}
use Rattle.std.specs.declared.alloc.Global.{Global}
use Rattle.anti_proc.specs.declared.end.BodyEnd.{BodyEnd}
use Rattle.anti_proc.specs.declared.run.Going.{Going}
use Rattle.anti_proc.specs.inner.Going.{going_tree}
use Rattle.anti_proc.proofs.run.first_run.Goals as goal

pub returns-in-Err-clause-tree : goal.returns-in-Err-clause-tree
returns-in-Err-clause-tree c =
    ap (λ (gone : Result (Box Going Global) BodyEnd). going_tree c.args.app.now c.args.given [] gone) (sym c.in-Err.is)
    ∙ c.in-Ok.ensures.tree
