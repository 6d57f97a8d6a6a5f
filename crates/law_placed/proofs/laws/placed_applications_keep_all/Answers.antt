use Rattle.law_placed.proofs.Keeping.{placed_is_explained, placed_is_lossless, placed_is_settled}
use Rattle.law_placed.proofs.laws.placed_applications_keep_all.Goals as goal

pub returns-clause-lossless : goal.returns-clause-lossless
returns-clause-lossless c = λ app sound placed trace legal. placed_is_lossless app sound placed trace legal

pub returns-clause-settled : goal.returns-clause-settled
returns-clause-settled c = λ app sound placed trace legal. placed_is_settled app sound placed trace legal

pub returns-clause-explained : goal.returns-clause-explained
returns-clause-explained c = λ app sound placed trace legal.
    placed_is_explained app sound placed trace legal
    (c.orders_are_serial.ensures app trace sound legal (placed_is_lossless app sound placed trace legal))
    (λ birth span. c.reads_of_a_span_are_a_chain.ensures trace birth span)
