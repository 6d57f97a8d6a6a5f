use Rattle.std.proofs.Common.{arith}
use Rattle.std.proofs.lemmas.Grind.{common_steps}
use Rattle.anti_lang.proofs.OtherWords.{one_behind, many_behind}
use Rattle.anti_lang.proofs.write.held_of.Goals.{in_default-via-then-words-lt2, in_default-via-else-words-lt2+else-words-lt3+else-words-lt4}
use Rattle.anti_lang.proofs.write.held_of.Goals as goal

pub returns-in-len3 : goal.returns-in-len3
returns-in-len3 c = grind (arith, common_steps)

pub returns-in-len2 : goal.returns-in-len2
returns-in-len2 c = grind (arith, common_steps)

pub returns-in-empty : goal.returns-in-empty
returns-in-empty c = grind (arith, common_steps)

pub returns-in_default : goal.returns-in_default
returns-in_default c = λ store key value. elim c.in_default.branch [
  | in_default-via-then-words-lt2 w ↦ one_behind store key value c.args.words.now (grind (arith, common_steps)) (grind (arith, common_steps))
  | in_default-via-else-words-lt2+else-words-lt3+else-words-lt4 w ↦ many_behind store key value c.args.words.now (grind (arith, common_steps))
]
