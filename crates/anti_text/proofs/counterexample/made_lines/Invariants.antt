use Rattle.std.proofs.Common.{◌≡◌, ◌++◌, drop}
use Rattle.anti_text.specs.Counterexamples.{made_lines}
use Rattle.anti_text.proofs.counterexample.made_lines.Given as goal

-- what is written and the lines that are left are all lines
abbrev pub invariant-loop-choice : goal.invariant-loop-choice
invariant-loop-choice l = l.out ++ made_lines l.printer.app.now l.trace (drop l.choice-index l.choices) l.left ≡ l.initial.out ++ made_lines l.printer.app.now l.trace l.choices l.marks
