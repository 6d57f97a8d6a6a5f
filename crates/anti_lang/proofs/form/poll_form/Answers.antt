use Rattle.std.proofs.Common.{arith}
use Rattle.std.proofs.lemmas.Grind.{common_steps}
use Rattle.anti_lang.proofs.OtherWords.{few_rows, many_rows}
use Rattle.anti_lang.proofs.form.poll_form.Goals.{in_default-via-then-words-lt4, in_default-via-else-words-lt4+else-words-lt5}
use Rattle.anti_lang.proofs.form.poll_form.Goals as goal

pub returns-in_default : goal.returns-in_default
returns-in_default c = elim c.in_default.branch [
  | in_default-via-then-words-lt4 w ↦ few_rows _ _ c.args.words.now (grind (arith, common_steps))
  | in_default-via-else-words-lt4+else-words-lt5 w ↦ many_rows _ _ c.args.words.now (grind (arith, common_steps))
]
