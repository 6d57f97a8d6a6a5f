use Rattle.std.proofs.Common.{arith}
use Rattle.std.proofs.lemmas.Grind.{common_steps}
use Rattle.anti_text.proofs.id_texts.IdTexts.go_on.Goals as goal

pub returns-in_ok-put-in-None-clause-text : goal.returns-in_ok-put-in-None-clause-text
returns-in_ok-put-in-None-clause-text c = grind (arith, common_steps)
