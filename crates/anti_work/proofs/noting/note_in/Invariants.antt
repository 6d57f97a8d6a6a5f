use Rattle.anti_work.specs.inner.Shipping.{FirstHaveNoted}
use Rattle.anti_work.proofs.noting.note_in.Given as goal

-- those before did, and those to come are as they were
abbrev pub invariant-loop-at : goal.invariant-loop-at
invariant-loop-at l = FirstHaveNoted l.at l.store l.region l.version l.fn.routes.items l.routes.items
