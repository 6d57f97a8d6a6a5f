use Rattle.std.proofs.Common.{◌≡◌, ◌++◌, take}
use Rattle.std.specs.Prelude.{codes}
use Rattle.std.specs.List.{flat_map}
use Rattle.anti_text.specs.Calls.{row_text}
use Rattle.anti_text.proofs.reply_words.rows_text.Given as goal

-- the rows so far are written, each behind a plus sign
abbrev pub invariant-loop-row : goal.invariant-loop-row
invariant-loop-row l = l.out ≡ l.initial.out ++ flat_map (λ row. codes " + " ++ row_text l.printer.app.now row) (take l.row-index l.rest)
