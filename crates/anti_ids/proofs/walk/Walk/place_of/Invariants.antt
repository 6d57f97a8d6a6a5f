use Rattle.std.proofs.Common.{◌≡◌}
use Rattle.std.specs.declared.cmp.Ordering.TheVariants.{Less}
use Rattle.anti_ids.specs.Ids.{id_cmp}
use Rattle.anti_ids.specs.inner.Stores.{Passed}
use Rattle.anti_ids.proofs.walk.Walk.place_of.Given as goal

-- those so far come before it
abbrev pub invariant-loop-other : goal.invariant-loop-other
invariant-loop-other l = Passed (λ j. id_cmp j l.id ≡ Less) l.initial.other-iterator l.other-iterator l.at
