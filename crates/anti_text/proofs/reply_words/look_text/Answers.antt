use Rattle.std.proofs.Common.{arith}
use Rattle.std.proofs.lemmas.Grind.{common_steps}
use Rattle.anti_text.proofs.reply_words.look_text.Goals as goal

pub returns : goal.returns
returns c = grind (arith, common_steps)
