use Rattle.std.proofs.Common.{sym, ◌∙◌}
use Rattle.anti_app.proofs.Marks.{no_dot}
use Rattle.anti_app.proofs.choice.go_to.Goals as goal

pub returns-in_err-dot : goal.returns-in_err-dot
returns-in_err-dot c = c.from_residual.ensures ∙ sym (no_dot c.args.app.now c.args.mark.now (sym c.first_dot.ensures.place ∙ c.in_err-dot.was))
