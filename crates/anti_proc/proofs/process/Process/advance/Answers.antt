use Rattle.std.proofs.Common.{sym, ap, ◌∙◌}
use Rattle.anti_proc.specs.declared.run.Life.{Life}
use Rattle.anti_proc.specs.inner.Standing.{full_in}
use Rattle.anti_proc.proofs.Settling.{goes_on}
use Rattle.anti_proc.proofs.process.Process.advance.Goals as goal

pub returns-in-Runs-clause-full : goal.returns-in-Runs-clause-full
returns-in-Runs-clause-full c =
    goes_on c.args.app.now c.in-Runs.run' c.in_ok-after-in-Runs.field-0 c.in_ok-after-in-Runs.ensures.spans
    ∙ sym (ap (λ (life : Life). full_in life) c.in-Runs.is)
