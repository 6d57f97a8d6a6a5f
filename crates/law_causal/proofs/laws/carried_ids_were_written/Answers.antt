use Rattle.law_causal.proofs.Causes.{carried_was_written}
use Rattle.law_causal.proofs.Legal.{facts}
use Rattle.law_causal.proofs.laws.carried_ids_were_written.Goals as goal

pub returns : goal.returns
returns c = λ app trace sound legal. carried_was_written app trace (facts app trace sound legal)
