use Rattle.std.proofs.Common.{refl}
use Rattle.std.proofs.lemmas.Result.{IfOk-weaker}
use Rattle.anti_proc.specs.inner.Standing.{local_by}
use Rattle.anti_proc.proofs.changes.Changes.carry.Goals as goal

pub returns-clause-goes : goal.returns-clause-goes
returns-clause-goes c =
    IfOk-weaker c.carry.result _ _ (λ stage goes. λ before s go. goes s (local_by c.args.self.now before) go refl) c.carry.ensures
