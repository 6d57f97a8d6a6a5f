use Rattle.law_causal.proofs.Legal.{facts}
use Rattle.law_serial.proofs.Serial.{serial}
use Rattle.law_serial.proofs.laws.orders_are_serial.Goals as goal

pub returns : goal.returns
returns c = λ app trace sound legal lossless reads settled chain.
    serial app trace legal (facts app trace sound legal) lossless reads settled chain
