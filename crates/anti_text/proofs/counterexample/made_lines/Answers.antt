use Rattle.std.proofs.Common.{ℕ, ◌≡◌, ◌<◌, ◌∙◌, List, [], ◌∷◌, ◌++◌, length, sym, arith}
use Rattle.std.proofs.lemmas.List.{append-nil}
use Rattle.anti_kind.specs.declared.entry.Entry.{Entry}
use Rattle.anti_app.specs.declared.app.App.{App}
use Rattle.anti_app.specs.declared.app.Choice.{Choice}
use Rattle.anti_trace.specs.declared.mark.Mark.{Mark}
use Rattle.anti_text.specs.Counterexamples.{made_lines}
use Rattle.anti_text.proofs.counterexample.made_lines.Goals as goal

-- where no marks are left there are no lines
none_left : (out : List ℕ) (app : App) (trace : List Entry) (choices : List Choice) (marks : List Mark) → length marks < 1
    → out ++ made_lines app trace choices marks ≡ out
none_left out app trace [] marks none = append-nil out
none_left out app trace (choice ∷ choices) [] none = append-nil out
none_left out app trace (choice ∷ choices) (mark ∷ marks) none = absurd (omega (arith, none))

pub returns-in_default : goal.returns-in_default
returns-in_default c = sym (none_left _ c.args.printer.now.app.now _ _ _ c.in_default.len_below) ∙ c.loop-choice.invariant
