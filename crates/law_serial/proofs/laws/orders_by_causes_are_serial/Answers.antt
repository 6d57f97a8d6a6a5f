use Rattle.law_causal.proofs.Legal.{facts}
use Rattle.law_serial.proofs.Explained.{explained}
use Rattle.law_serial.proofs.laws.orders_by_causes_are_serial.Goals as goal

pub returns : goal.returns
returns c = λ app trace sound legal reads past are_reads chain tells misses_nothing.
    explained app trace legal (facts app trace sound legal) reads past are_reads chain tells misses_nothing
