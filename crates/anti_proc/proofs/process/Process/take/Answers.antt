use Rattle.std.proofs.Common.{sym, ap, ◌∙◌}
use Rattle.anti_proc.specs.declared.run.Advance.{Advance}
use Rattle.anti_proc.specs.declared.run.Life.{Life}
use Rattle.anti_proc.specs.declared.run.Life.TheVariants.{Runs}
use Rattle.anti_proc.specs.inner.Standing.{life_after}
use Rattle.anti_proc.proofs.process.Process.take.Goals as goal

pub returns-in-Runs-clause-stands : goal.returns-in-Runs-clause-stands
returns-in-Runs-clause-stands c = λ app.
    c.take.ensures.tree app
    ∙ sym (ap (λ (a : Advance). life_after app (Runs c.in-Runs.run') a) c.in-Goes.is)
    ∙ sym (ap (λ (life : Life). life_after app life c.args.advance) c.in-Runs.is)
