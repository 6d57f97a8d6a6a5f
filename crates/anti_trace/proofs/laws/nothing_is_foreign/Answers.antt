use Rattle.anti_trace.proofs.OfLegal.{all_start, none_foreign}
use Rattle.anti_trace.proofs.laws.nothing_is_foreign.Goals as goal

pub returns : goal.returns
returns c = record {
  replies = λ app trace sound legal. none_foreign app trace legal sound;
  births = λ app trace sound legal. all_start app trace legal sound;
}
