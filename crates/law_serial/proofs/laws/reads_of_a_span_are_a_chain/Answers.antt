use Rattle.law_serial.proofs.Chains.{span_chain}
use Rattle.law_serial.proofs.laws.reads_of_a_span_are_a_chain.Goals as goal

pub returns : goal.returns
returns c = λ trace birth span. span_chain trace birth span
