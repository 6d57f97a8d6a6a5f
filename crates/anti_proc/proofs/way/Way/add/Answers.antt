use Rattle.std.proofs.Common.{refl, ap, ◌∙◌}
use Rattle.std.specs.Prelude.{Option}
use Rattle.std.proofs.lemmas.Result.{IfOk-weaker}
use Rattle.anti_proc.specs.declared.variables.Binding.{Binding}
use Rattle.anti_proc.specs.Local.{held_ids}
use Rattle.anti_proc.specs.Meaning.{carry}
use Rattle.anti_proc.specs.inner.Standing.{local_in}
use Rattle.anti_proc.proofs.way.Way.add.Goals as goal

pub returns-clause-goes : goal.returns-clause-goes
returns-clause-goes c =
    IfOk-weaker c.add.result _ _
    (λ stage goes. λ s go. goes s (local_in c.args.self.now) go refl
    ∙ ap (λ (held : Option Binding). carry (held_ids held) (local_in c.args.self.now) go) c.held_since-held.ensures)
    c.add.ensures
