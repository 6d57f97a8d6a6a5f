use Rattle.anti_trace.proofs.OfLegal.{known_of_legal, stamps_of_legal, unborn_of_legal}
use Rattle.anti_trace.proofs.laws.legal_traces_are_known.Goals as goal

pub returns : goal.returns
returns c = record {
  known = λ app trace sound legal. known_of_legal app trace legal sound;
  stamps = λ app trace legal. stamps_of_legal app trace legal;
  unborn = λ app trace b legal. unborn_of_legal app trace legal b;
}
