use Rattle.law_causal.specs.Reads.{reads_of}
use Rattle.law_causal.proofs.Legal.{facts}
use Rattle.anti_doctor.proofs.Deciding.{are_reads, chains_are_decided}
use Rattle.anti_doctor.proofs.laws.diagnoses_decide.Goals as goal

pub returns-clause-chains : goal.returns-clause-chains
returns-clause-chains c = λ app trace sound legal.
    chains_are_decided app trace legal (facts app trace sound legal) (c.orders_by_causes_are_serial.ensures app trace sound legal)

pub returns-clause-spans : goal.returns-clause-spans
returns-clause-spans c = λ app trace sound legal birth span diagnosis.
    chains_are_decided app trace legal (facts app trace sound legal) (c.orders_by_causes_are_serial.ensures app trace sound legal)
    (reads_of trace birth span) diagnosis (are_reads trace birth span) (c.reads_of_a_span_are_a_chain.ensures trace birth span)
