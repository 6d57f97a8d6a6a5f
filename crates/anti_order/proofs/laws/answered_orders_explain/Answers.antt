use Rattle.law_causal.specs.Reads.{reads_of}
use Rattle.anti_order.proofs.Explaining.{chains_are_explained}
use Rattle.anti_order.proofs.laws.answered_orders_explain.Goals as goal

pub returns-clause-chains : goal.returns-clause-chains
returns-clause-chains c = λ app trace sound legal.
    chains_are_explained app trace (λ lossless. c.orders_are_serial.ensures app trace sound legal lossless)

pub returns-clause-spans : goal.returns-clause-spans
returns-clause-spans c = λ app trace sound legal birth span.
    chains_are_explained app trace (λ lossless. c.orders_are_serial.ensures app trace sound legal lossless) (reads_of trace birth span)
    (c.reads_of_a_span_are_a_chain.ensures trace birth span)
