use Rattle.std.proofs.Common.{◌≡◌, ℕ, [], length}
use Rattle.anti_order.specs.inner.Writes.{rows_on}
use Rattle.anti_order.proofs.writes.no_writes.Given as goal

abbrev pub invariant-loop-object : goal.invariant-loop-object
invariant-loop-object l = record { count : length l.lists.items ≡ l._object; none : (store : ℕ) → rows_on l.lists.items store ≡ [] }
