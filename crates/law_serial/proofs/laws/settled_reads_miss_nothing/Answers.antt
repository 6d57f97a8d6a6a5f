use Rattle.law_causal.proofs.Legal.{facts}
use Rattle.law_serial.proofs.Missed.{nothing_missed}
use Rattle.law_serial.proofs.laws.settled_reads_miss_nothing.Goals as goal

pub returns : goal.returns
returns c = λ app trace sound legal lossless. nothing_missed app trace legal (facts app trace sound legal) lossless
