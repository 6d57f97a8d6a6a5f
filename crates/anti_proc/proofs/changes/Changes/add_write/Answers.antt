use Rattle.std.proofs.Common.{refl}
use Rattle.std.proofs.lemmas.Result.{IfOk-weaker}
use Rattle.anti_proc.specs.inner.Standing.{local_by}
use Rattle.anti_proc.proofs.changes.Changes.add_write.Goals as goal

pub returns-clause-goes : goal.returns-clause-goes
returns-clause-goes c =
    IfOk-weaker c.add_write.result _ _ (λ stage goes. λ before s go. goes s (local_by c.args.self.now before) go refl) c.add_write.ensures
