use Rattle.anti_ids.specs.Each.{Each}
use Rattle.anti_baggage.specs.Over.{IsIdOver}
use Rattle.anti_baggage.proofs.over.is_over.Given as goal

-- where those to come are all over the stores, all are
abbrev pub invariant-loop-id : goal.invariant-loop-id
invariant-loop-id l = Each (IsIdOver l.stores) l.id-iterator → Each (IsIdOver l.stores) l.initial.id-iterator
